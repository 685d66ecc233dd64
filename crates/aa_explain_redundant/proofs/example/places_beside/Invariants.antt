use Rattle.std.proofs.Common.{◌≡◌, ◌++◌, ◌+◌, map, length}
use Rattle.aa_explain_redundant.specs.Examples.{places_beside}
use Rattle.aa_explain_redundant.specs.Seen.{seen_numbered}
use Rattle.aa_explain_redundant.proofs.example.places_beside.Given as goal

-- the places so far, with those of what is left, are all
abbrev pub invariant-loop-rest : goal.invariant-loop-rest
invariant-loop-rest l = record {
  same : l.beside.items ++ places_beside l.path l.gone l.letters.0 l.place (map seen_numbered l.rest)
      ≡ places_beside l.path l.gone l.letters.0 0 (map seen_numbered l.rules);
  count : l.place + length l.rest ≡ length l.rules;
}

abbrev pub decreases-loop-rest : goal.decreases-loop-rest
decreases-loop-rest l = length l.rest
