pub mod AgentNumbers
pub mod Channels
pub mod OneAgent
pub mod Tiles
pub mod NewTiles
pub mod OwnSteps
mod Examples
pub mod OwnAttempts
