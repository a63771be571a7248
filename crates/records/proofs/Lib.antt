-- Laws of the definitions: a mark, a line put in parts, an offset's digits, bounds for a run.
pub mod Marks
pub mod Put
pub mod Decimal
pub mod Within
