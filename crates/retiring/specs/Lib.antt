pub mod Figures
pub mod Drains
pub mod Cores
pub mod Edges
