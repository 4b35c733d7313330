pub mod Past
pub mod Fill
pub mod Calls
pub mod Decimal
