pub mod Pass
pub mod Answers
pub mod Walk
pub mod Worked
