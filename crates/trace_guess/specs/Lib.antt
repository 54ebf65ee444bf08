pub mod Explained
