-- Laws of rows.
pub mod Row
