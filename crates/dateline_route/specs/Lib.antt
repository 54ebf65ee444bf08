pub mod Ring
pub mod Route
pub mod Next
pub mod Walk
