pub mod Named
pub mod Operands
pub mod Operations
