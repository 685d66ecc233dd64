mod FindingLemmas
mod GroupLemmas
