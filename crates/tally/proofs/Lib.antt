pub mod Figures
pub mod Walk
pub mod Worked
