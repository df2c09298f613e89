pub mod Faults
pub mod Texts
pub mod Reads
pub mod Places
pub mod Walks
pub mod Trips
