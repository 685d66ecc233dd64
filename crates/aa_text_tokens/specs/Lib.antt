pub mod Cut
pub mod CutFault
pub mod CutLaws
pub mod SeenSplicedTokens
pub mod SeenTokens
pub mod Splicing
pub mod code
