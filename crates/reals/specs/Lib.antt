pub mod Values
pub mod model
