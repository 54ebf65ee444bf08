pub mod Free
pub mod Moves
