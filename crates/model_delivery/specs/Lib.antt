pub mod Calls
pub mod Book
pub mod Demand3
pub mod Demand2
