pub mod Arrays
pub mod Raising
pub mod Rows
