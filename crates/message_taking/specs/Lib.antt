pub mod Deliver
