pub mod Same
pub mod Marked
pub mod Whole
pub mod Settled
