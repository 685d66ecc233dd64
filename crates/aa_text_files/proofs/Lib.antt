pub mod FilesLemmas
pub mod FolderLemmas
pub mod OrderLemmas
