pub mod Going
pub mod Whole
pub mod Edge
