pub mod Sets
pub mod Read
pub mod Lasts
pub mod Above
