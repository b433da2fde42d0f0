pub mod Faults
pub mod Decoding
pub mod Encoding
