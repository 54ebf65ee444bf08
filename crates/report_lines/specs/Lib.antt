pub mod Line
pub mod Fits
pub mod Taken
pub mod Contents
pub mod Parts
pub mod Reading
