use Rattle.std.proofs.Common.{rules, sym}
use Rattle.aa_decide_ready.proofs.ready.Ready.build.Goals as goal

pub invariant_of-result : goal.invariant_of-result
invariant_of-result c =
    (rw (sym c.as_slice.ensures) (c.in_ok-own.ensures c.args.profile.rules), rw (sym c.as_slice-2.ensures) c.in_ok-parts.ensures, search rules)
