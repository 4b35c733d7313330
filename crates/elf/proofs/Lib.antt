pub mod Back
pub mod Written
