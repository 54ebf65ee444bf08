pub mod Rounds
pub mod Moving
pub mod Going
pub mod Skips
