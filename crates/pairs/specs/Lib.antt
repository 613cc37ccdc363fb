pub mod Accepted
pub mod Place
