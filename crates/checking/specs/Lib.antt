pub mod Checking
pub mod Numbers
pub mod model
