pub mod Layouts
pub mod Successions
pub mod Statement
pub mod Walk
pub mod Following
