pub mod Pieces
pub mod Asked
pub mod InRounds
pub mod Telling
pub mod Numbers
pub mod Counted
