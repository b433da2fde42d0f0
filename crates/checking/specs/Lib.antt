pub mod Checked
pub mod Figures
