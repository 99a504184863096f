pub mod Holding
pub mod Quick
pub mod Moves
pub mod Words
