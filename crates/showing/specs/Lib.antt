pub mod Characters
pub mod Pages
