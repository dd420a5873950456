pub mod Places
pub mod Stories
pub mod Acts
pub mod Rule
