mod BitLemmas
pub mod HexadecimalLemmas
mod NameMapLemmas
