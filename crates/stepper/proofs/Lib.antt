pub mod Executions
pub mod Applied
