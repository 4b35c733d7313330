pub mod Tally
pub mod Walk
pub mod Worked
