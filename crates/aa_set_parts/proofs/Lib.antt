pub mod ExchangeLemmas
pub mod SlotLemmas
