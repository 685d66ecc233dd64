pub mod BitLemmas
pub mod ClassLemmas
pub mod ElementLemmas
pub mod FaultLemmas
pub mod LiteralLemmas
pub mod SlashLemmas
pub mod SymbolLemmas
