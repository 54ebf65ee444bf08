pub mod Written
pub mod Left
pub mod Searching
pub mod Circuits
pub mod Ranks
pub mod Chained
mod Examples
