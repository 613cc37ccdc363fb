pub mod Decimal
pub mod Write
