pub mod Refused
