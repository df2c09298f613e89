pub mod Accepted
pub mod Laying
pub mod Limits
pub mod Lists
pub mod Steps
