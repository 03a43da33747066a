pub mod First
pub mod Same
pub mod Records
pub mod Each
pub mod Below
