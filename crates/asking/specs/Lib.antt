pub mod Numerals
pub mod Words
pub mod Sorts
pub mod Options
pub mod Table
pub mod Lists
