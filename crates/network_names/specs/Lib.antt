pub mod Called
pub mod Listed
pub mod Named
