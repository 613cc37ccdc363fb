pub mod Order
pub mod Place
pub mod Table
