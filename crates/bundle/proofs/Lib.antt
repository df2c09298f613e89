pub mod Ends
pub mod Backs
pub mod Steps
pub mod Lines
pub mod Held
pub mod Runs
