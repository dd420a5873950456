-- What the program sees of its surroundings: files, outputs, links and disks.
pub mod Outside
pub mod Shelves
pub mod Sinks
