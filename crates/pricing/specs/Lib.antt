pub mod Lists
pub mod Allocations
pub mod WirePrices
pub mod Measures
pub mod Prices
pub mod Ready
pub mod Replies
pub mod Worked
