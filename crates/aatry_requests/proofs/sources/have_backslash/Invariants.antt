use Rattle.std.proofs.Common.{◌≡◌, length, map}
use Rattle.std.specs.List.{list_any}
use Rattle.aatry_questions.specs.Names.{is_backslash}
use Rattle.aatry_requests.proofs.sources.have_backslash.Given as goal

-- from here on it ends as from the beginning
abbrev pub invariant-loop-rest : goal.invariant-loop-rest
invariant-loop-rest l =
    list_any (list_any is_backslash) (map (λ word. word.now) l.rest) ≡ list_any (list_any is_backslash) (map (λ word. word.now) l.words)

abbrev pub decreases-loop-rest : goal.decreases-loop-rest
decreases-loop-rest l = length l.rest
