pub mod Lists
pub mod Steps
pub mod Numbers
pub mod Plans
pub mod Edits
pub mod Shown
