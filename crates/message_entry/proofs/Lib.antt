pub mod AnyIndex
pub mod Entering
pub mod Next
