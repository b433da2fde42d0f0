pub mod Retirements
pub mod Effects
pub mod Changes
