pub mod Quotes
pub mod Asked
pub mod Answers
