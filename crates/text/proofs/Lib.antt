pub mod Steps
pub mod Numbers
pub mod Cuts
pub mod Fronts
pub mod Runs
pub mod Placed
pub mod Counts
