pub mod Puts
pub mod Decimals
pub mod Bounds
pub mod Sample
pub mod Digits
