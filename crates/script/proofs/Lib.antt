pub mod Checks
pub mod Told
pub mod LineLists
pub mod Counted
pub mod SevenWords
pub mod PlainLines
pub mod AgentChoices
