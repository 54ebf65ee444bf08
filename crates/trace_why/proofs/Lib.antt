pub mod Places
pub mod Reaching
pub mod Listing
pub mod Growing
pub mod Bad
pub mod Telling
pub mod Trying
pub mod Certifying
