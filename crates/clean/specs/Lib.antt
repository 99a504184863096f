pub mod House
pub mod Job
pub mod Numbers
pub mod Tidy
pub mod model
