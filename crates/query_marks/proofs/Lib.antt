pub mod Part
pub mod Sides
pub mod Both
