pub mod Counting
pub mod Zeros
pub mod Closing
pub mod Looking
pub mod Adding
pub mod Gathered
pub mod Out
pub mod Coming
pub mod FilledTold
pub mod Waiting
mod Told
