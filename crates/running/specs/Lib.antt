pub mod Refusals
pub mod Jobs
pub mod Figures
