use Rattle.std.proofs.lemmas.List.Filters.{dedup_is}
use Rattle.std.proofs.lemmas.List.Kept.{Contains-dedup_nat, Contains-from_dedup}
use Rattle.std.proofs.lemmas.List.Sorted.{Contains-permutation, IsPermutation-sym}
use Rattle.std.proofs.lemmas.Map.Keys.{IsStrictlyIncreasing-dedup}
use Rattle.aa_glob_run.proofs.patterns.patterns_of.Goals as goal

-- the sort only moves the numbers, and `dedup` keeps one of each
pub returns-clause-found : goal.returns-clause-found
returns-clause-found c =
    let is = dedup_is _ _ _ c.dedup.ensures.filtered in
    let moved = c.sort_unstable.ensures.permutation in
    λ p. (
      (λ h. (c.in_ok-found.ensures p).0 (Contains-permutation _ _ p (IsPermutation-sym _ _ moved) (Contains-from_dedup _ _ p (rw is at h)))),
      (λ ends. rw is (Contains-dedup_nat _ p (Contains-permutation _ _ p moved ((c.in_ok-found.ensures p).1 ends)))),
    )

pub returns-clause-rise : goal.returns-clause-rise
returns-clause-rise c = rw (dedup_is _ _ _ c.dedup.ensures.filtered) (IsStrictlyIncreasing-dedup _ c.sort_unstable.ensures.sorted)
