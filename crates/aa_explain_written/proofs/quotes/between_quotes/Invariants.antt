use Rattle.std.proofs.Common.{◌≡◌, ◌++◌, length}
use Rattle.aa_explain_written.specs.Quotes.{between_quotes, quoted_behind}
use Rattle.aa_explain_written.proofs.quotes.between_quotes.Given as goal

-- the text so far, and what the rest of the pattern becomes, are all
abbrev pub invariant-loop-rest : goal.invariant-loop-rest
invariant-loop-rest l = record {
  all : l.text.items ++ quoted_behind l.taken l.before l.rest ≡ between_quotes l.pattern;
}

abbrev pub decreases-loop-rest : goal.decreases-loop-rest
decreases-loop-rest l = length l.rest
