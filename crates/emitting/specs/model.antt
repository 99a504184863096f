pub mod Emission
pub mod Layout
pub mod Arrays
