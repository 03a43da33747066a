pub mod Number
pub mod Line
pub mod Text
pub mod Refusal
pub mod Checks
pub mod RecordLaws
pub mod Calls
pub mod Theorems
