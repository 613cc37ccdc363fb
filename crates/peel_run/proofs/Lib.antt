pub mod Steps
pub mod Running
