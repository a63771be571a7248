-- What keeps the fields of a message within its 96 bytes.
pub mod Fields
