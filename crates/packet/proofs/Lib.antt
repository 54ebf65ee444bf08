pub mod Accepted
pub mod Answered
pub mod Fields
pub mod FlitBits
pub mod Folds
pub mod Named
pub mod Offering
pub mod OneAnswer
pub mod Refusals
pub mod Shapes
pub mod Spelled
pub mod Told
pub mod Words
mod WrongOnes
