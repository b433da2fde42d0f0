pub mod Packets
pub mod Entering
pub mod Meeting
pub mod Stages
