pub mod Sound
pub mod Policy
pub mod Measure
pub mod Reaching
