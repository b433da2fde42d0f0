pub mod Scanned
pub mod Read
