mod BelowLemmas
