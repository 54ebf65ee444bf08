pub mod Pushed
pub mod Lasts
pub mod Orders
pub mod Exact
pub mod Stepped
pub mod ByKind
pub mod Runs
pub mod Blocks
pub mod Scheduled
pub mod Sequential
pub mod Checked
pub mod Follow
pub mod Tested
mod Deciding
mod Examples
pub mod Headlined
pub mod Last
pub mod InTurns
pub mod Valued
pub mod Replayed
pub mod RunBy
pub mod Buffers
pub mod Coherent
