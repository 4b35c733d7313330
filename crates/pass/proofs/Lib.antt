pub mod Stepping
pub mod Steps
pub mod Walk
pub mod Worked
