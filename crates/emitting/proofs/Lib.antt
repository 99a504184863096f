pub mod Spreading
pub mod Alikes
pub mod Stacked
pub mod NextUses
pub mod LeftParts
pub mod Counters
pub mod Dispatch
pub mod Twice
