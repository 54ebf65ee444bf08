pub mod MixedRadix
pub mod Kept
pub mod Refusals
pub mod Hops
pub mod Neighbours
