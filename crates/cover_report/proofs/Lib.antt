pub mod Enough
pub mod Sample
pub mod Sizes
pub mod Report
pub mod Filled
