pub mod Bands
pub mod Answer
pub mod Words
