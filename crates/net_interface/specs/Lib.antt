pub mod Place
pub mod Beginning
pub mod Inside
pub mod Reach
