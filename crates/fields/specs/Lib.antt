pub mod Numbers
pub mod Refusals
pub mod Rows
pub mod Scanning
pub mod Files
