pub mod Faults
pub mod Reading
pub mod Meaning
pub mod States
