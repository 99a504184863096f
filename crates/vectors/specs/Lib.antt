pub mod Listed
pub mod Pages
pub mod Ended
pub mod Sent
pub mod Capitals
pub mod Counted
pub mod Months
pub mod Twos
