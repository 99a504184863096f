pub mod Lemmas
pub mod Choices
pub mod Whole
pub mod WholePrelude
