pub mod Text
pub mod CaseFile
pub mod Parts
pub mod Sample
