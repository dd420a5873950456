-- Who may ask what, with which number and within which limits, and how a request is refused.
pub mod Limits
pub mod Numbers
pub mod PlainReplies
pub mod Refusals
pub mod Roles
pub mod SameCommands
