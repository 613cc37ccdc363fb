pub mod Drop
pub mod Lacking
pub mod Start
