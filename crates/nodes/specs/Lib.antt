pub mod ExportsTrie
pub mod Exported
pub mod Child
pub mod Listing
pub mod Symbols
