pub mod Questions
pub mod Moving
pub mod Running
pub mod Laws
pub mod Draining
pub mod Lines
