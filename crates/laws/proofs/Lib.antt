pub mod Keys
pub mod Bytes
pub mod Bools
pub mod Stores
pub mod Wrap
