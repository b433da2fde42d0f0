pub mod Cuts
pub mod Lefts
pub mod Bits
pub mod Readings
