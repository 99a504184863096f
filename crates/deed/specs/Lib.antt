pub mod Status
pub mod Commands
