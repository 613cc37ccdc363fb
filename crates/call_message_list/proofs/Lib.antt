pub mod Once
pub mod List
pub mod Turns
