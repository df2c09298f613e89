pub mod Cuts
pub mod Numbers
pub mod Runs
pub mod Lines
