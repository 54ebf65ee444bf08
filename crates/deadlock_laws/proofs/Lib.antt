pub mod LengthFilled
pub mod Circular
pub mod Lines
pub mod LengthMoves
pub mod Parts
pub mod Paths
pub mod Shares
pub mod Levels
pub mod Brims
pub mod NextLevels
pub mod Ended
pub mod Finished
pub mod Both
mod LengthExamples
pub mod Kept
pub mod Going
pub mod Never
pub mod ClassMoves
pub mod Settings
pub mod Fills
pub mod Locked
pub mod Covered
mod EndExamples
mod ClassExamples
pub mod ChoiceMoves
pub mod Still
pub mod ChoiceFilled
pub mod Single
pub mod Empties
pub mod Sets
pub mod Peeled
mod ChoiceExamples
