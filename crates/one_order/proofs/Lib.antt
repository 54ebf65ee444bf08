pub mod Lists
pub mod Folds
pub mod Account
pub mod AccountKept
pub mod Told
pub mod History
pub mod Numbers
pub mod Growth
pub mod EventTimes
pub mod EventNumbers
pub mod OrderRows
pub mod IssueNumbers
pub mod Counting
pub mod Naming
pub mod Replay
pub mod BankReplay
pub mod Unique
pub mod Words
pub mod Positions
pub mod Agreement
pub mod InTurn
pub mod AnswersInTurn
pub mod Beginnings
mod WrongOnes
mod WrongOrders
mod Examples
pub mod Histories
pub mod Operations
pub mod Residual
pub mod Places
pub mod Shown
pub mod Kept
pub mod Followable
pub mod Homes
pub mod Ended
pub mod Values
pub mod Grown
pub mod Appending
mod FollowerExamples
mod FollowerWrongOnes
pub mod AbstractPlaces
pub mod Transport
pub mod Transported
pub mod Parts
pub mod FirstPlaces
pub mod Counts
pub mod Telling
pub mod Whole
pub mod Follows
pub mod FollowsMoves
pub mod First
pub mod Courses
pub mod EventBooks
pub mod BoundsScripts
pub mod Balances
pub mod Bounds
pub mod Finished
pub mod Reports
pub mod LoadingAccepted
mod AbstractExamples
