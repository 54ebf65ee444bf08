pub use Rattle.core_laws.proofs.Lawful
pub use Rattle.core_laws.proofs.RowOfRuns
pub mod Runs
pub mod Stores
pub mod Groups
pub mod Growing
pub mod Attempts
pub mod Joining
pub mod Cutting
pub mod Ending
pub mod Ends
mod WrongOnes
mod Examples
pub mod Undisturbed
pub mod OwnEnds
pub mod Flags
pub mod Ports
pub mod Kept
pub mod Falling
mod Sides
mod Bordering
mod Filling
pub mod Counting
pub mod Takes
