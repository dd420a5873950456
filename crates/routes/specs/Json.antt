-- JSON (RFC 8259): objects that are written, and bodies that are read.
pub mod Bodies
pub mod MemberValues
pub mod Objects
