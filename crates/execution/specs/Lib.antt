pub mod Executed
pub mod Figures
