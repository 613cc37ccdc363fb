pub mod Number
pub mod Told
