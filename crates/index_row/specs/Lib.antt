pub mod Row
pub mod Source
