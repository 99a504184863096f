pub mod Passing
pub mod Stages
pub mod Moves
pub mod Preluding
