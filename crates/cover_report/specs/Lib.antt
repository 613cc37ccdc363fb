pub mod Program
pub mod Sample
pub mod Sizes
