pub mod Ready
pub mod Room
