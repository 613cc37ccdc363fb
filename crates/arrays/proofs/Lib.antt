pub mod Copied
pub mod Filled
pub mod Marks
pub mod Storing
