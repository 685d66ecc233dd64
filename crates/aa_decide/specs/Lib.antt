pub mod Attachment
pub mod Exec
pub mod ExecLaws
pub mod SeenExec
pub mod code
