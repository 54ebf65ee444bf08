mod Verdicts
mod Reports
mod Refusals
pub mod NoAnswers
pub mod RunModels
mod Tables
mod Strings
