pub mod FromTables
pub mod Promises
pub mod Refuted
pub mod RowLaws
