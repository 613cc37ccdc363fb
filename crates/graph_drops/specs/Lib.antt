pub mod Drop
