pub mod Search
pub mod FindCall
pub mod Theorems
