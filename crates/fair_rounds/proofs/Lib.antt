pub mod Reindexing
pub mod Trails
pub mod Sizes
pub mod Hops
pub mod HeadCounts
pub mod Tolls
pub mod UnderWay
pub mod KnownRuns
pub mod ClassCounts
pub mod MachineCounts
pub mod Falls
pub mod Charges
pub mod Calm
pub mod Ready
pub mod CanGo
pub mod Rings
pub mod Frames
pub mod IdleWants
pub mod Rounds
pub mod RoundMoves
pub mod NetRuns
pub mod OpenRuns
pub mod Guards
pub mod Issues
pub mod Attempted
pub mod Credits
pub mod Lines
pub mod TwoRounds
pub mod Waits
mod Firsts
pub mod Holders
mod HeldMoves
mod GuardOut
pub mod InTurn
mod LeastOut
mod GuardKnows
pub mod GuardedRuns
mod FairFinish
mod Examples
pub mod Paced
