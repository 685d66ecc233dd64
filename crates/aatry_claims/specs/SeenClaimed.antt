-- What contracts see of a claim.
use Rattle.aatry_claims.specs.Claimed.{Claimed}
use Rattle.aatry_claims.specs.Words.{seen_words}
use Rattle.aatry_claims.specs.declared.breaking.Claimed.{Claimed as CodeClaimed}

abbrev pub seen_claimed : CodeClaimed → Claimed
seen_claimed claimed = record { claim = claimed.claim; words = seen_words claimed.words }
