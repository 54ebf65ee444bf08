pub mod Lists
pub mod Issues
pub mod Memory
pub mod Legal
pub mod Beginnings
pub mod PathOrders
pub mod WordOrders
pub mod Fronts
pub mod Merging
mod WrongOnes
mod Examples
pub mod Bits
pub mod Table
pub mod Dominance
pub mod Fits
pub mod Trails
pub mod Picking
pub mod Sound
pub mod Walking
pub mod Complete
pub mod Start
pub mod Fewer
mod SearchExamples
pub mod Without
pub mod Unanswered
