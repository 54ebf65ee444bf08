pub mod Cases
pub mod Peeling
pub mod Numbers
pub mod Greatest
pub mod FillingFlags
pub mod Deciding
