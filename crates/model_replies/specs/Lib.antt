pub mod Reading
pub mod Steps
pub mod Judged
pub mod Printed
pub mod Answers
