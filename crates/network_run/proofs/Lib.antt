pub mod SevenWords
pub mod Refused
pub mod Locking
pub mod Telling
pub mod Numberless
pub mod Filled
pub mod Ways
