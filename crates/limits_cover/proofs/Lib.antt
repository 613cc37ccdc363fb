pub mod Sweeps
pub mod Whole
