pub mod Accepted
pub mod Fits
pub mod Lists
pub mod Moves
pub mod Sounds
pub mod Steps
