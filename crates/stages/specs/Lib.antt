pub mod Table
pub mod Stage
pub mod Openings
pub mod Chain
