-- What is about the code: how its tokens and the pieces that it cuts correspond to the definitions.
pub mod Pieces
pub mod SplicingProgress
pub mod Tokens
