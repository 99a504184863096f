pub mod Digits
pub mod Fewest
pub mod Written
pub mod Reading
