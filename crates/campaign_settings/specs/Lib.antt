pub mod Settings
pub mod TomlTables
