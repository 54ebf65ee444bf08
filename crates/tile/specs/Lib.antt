pub mod Wiring
pub mod Tile
pub mod Choices
pub mod Agents
pub mod Beginning
pub mod Refinement
pub mod Placed
pub mod Inside
