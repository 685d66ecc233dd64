use Rattle.std.proofs.Common.{◌⊎◌}
use Rattle.aa_glob_pairs.proofs.LeastLemmas.{lowers_then}
use Rattle.aa_glob_pairs.specs.Clashes.{Clash}
use Rattle.aa_glob_pairs.proofs.ends.lower_both.Goals as goal

pub returns : goal.returns
returns c =
    let first = c.args.first.now in
    let second = c.args.second.now in
    lowers_then c.args.found.now c.lower.new.found c.lower-2.new.found (Clash first second) (Clash second first) (λ k. Clash first second k ⊎ Clash second first k) c.lower.ensures c.lower-2.ensures
    (λ k. (λ h. h, λ h. h))
