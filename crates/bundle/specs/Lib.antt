pub mod History
pub mod Runs
pub mod Views
pub mod Stands
pub mod Shown
pub mod Laws
pub mod Worked
