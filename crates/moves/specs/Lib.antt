pub mod Faults
pub mod Decoding
pub mod Reading
pub mod Meaning
pub mod Lines
