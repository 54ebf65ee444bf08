pub mod Asked
pub mod Grown
pub mod Parting
pub mod Told
pub mod Weakly
