-- Laws of the layout; that loading and saving undo each other, and that a refusal changes no byte.
pub mod Laid
pub mod RoundTrip
pub mod Refusals
