pub mod Words
pub mod Record
pub mod Replay
pub mod Keeping
pub mod Numbers
pub mod samples
pub mod model
