pub mod After
pub mod Tails
