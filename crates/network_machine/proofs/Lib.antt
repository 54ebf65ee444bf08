pub mod Packets
pub mod Keeping
pub mod Lists
pub mod Columns
pub mod Which
pub mod Sets
pub mod Forwards
pub mod Puts
pub mod Owners
pub mod Knowing
pub mod Cells
pub mod Hindering
pub mod Kept
pub mod Still
pub mod Making
pub mod Running
mod Examples
