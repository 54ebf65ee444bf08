pub mod Climbs
pub mod Dimensions
pub mod Ends
pub mod Examples
pub mod First
pub mod Lengths
pub mod Neighbours
pub mod Rings
pub mod Stepped
pub mod Tiles
pub mod Walks
mod WrongOnes
