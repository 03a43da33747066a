pub mod NumberLaws
pub mod LineLaws
pub mod CheckLaws
pub mod CallLaws
pub mod TextLaws
pub mod Theorems
