pub mod Stamps
pub mod Tests
