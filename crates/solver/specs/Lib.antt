pub mod Least
pub mod Front
pub mod Strips
pub mod Trail
pub mod Written
pub mod Options
