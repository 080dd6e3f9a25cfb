pub mod Chars
pub mod Handles
pub mod Names
pub mod Properties
pub mod Props
pub mod Written
