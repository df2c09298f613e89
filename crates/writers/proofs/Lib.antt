pub mod Parts
pub mod Empties
pub mod Wholes
pub mod Shapes
