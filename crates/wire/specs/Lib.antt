-- The crate's definitions: Wire is the document's, Reversed is what the private functions promise besides.
pub mod Wire
pub mod Reversed
