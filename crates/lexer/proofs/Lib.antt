pub mod LineCuts
pub mod Numbers
pub mod WordCuts
