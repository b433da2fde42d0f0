pub mod Stays
pub mod Runs
