pub mod Any
pub mod Sums
pub mod Table
pub mod Looked
pub mod Stored
