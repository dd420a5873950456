-- How each command ends.
pub mod ArchiveEnds
pub mod BookEnds
pub mod CompactEnds
pub mod DrillEnds
pub mod EvalEnds
pub mod ReportEnds
pub mod ServeEnds
pub mod SessionEnds
pub mod ShownEnds
