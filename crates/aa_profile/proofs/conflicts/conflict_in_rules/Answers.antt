use Rattle.std.proofs.Common.{◌∙◌, map}
use Rattle.aa_profile_rules.specs.SeenRules.{seen_rule}
use Rattle.aa_profile.proofs.ConflictLemmas.{counted-next, rules-next}
use Rattle.aa_profile.proofs.conflicts.conflict_in_rules.Goals as goal

pub loop-rest-preserved : goal.loop-rest-preserved
loop-rest-preserved c =
    let variables = c.args.table.now in
    let rest = c.loop-rest.rest.now in
    record {
      reached = rules-next c.args.language variables (map seen_rule c.args.written.now) rest _ c.loop-rest.on c.pass.new.on c.in-len1-up.len_at_least c.loop-rest.invariant.reached
          (rw (c.in_default-2.is, c.loop-rest.invariant.same) at c.in_ok-place.ensures.passes);
      counted = counted-next variables rest c.in-len1-up.len_at_least c.loop-rest.invariant.counted;
      same = c.in_ok-place.ensures.same ∙ c.loop-rest.invariant.same;
    }
