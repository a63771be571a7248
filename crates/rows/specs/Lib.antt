-- What the functions over rows promise by.
pub mod Row
