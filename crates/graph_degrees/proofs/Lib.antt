pub mod Counted
pub mod Reading
pub mod Behind
