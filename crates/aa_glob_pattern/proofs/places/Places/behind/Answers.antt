use Rattle.std.proofs.Common.{Some}
use Rattle.aa_glob_pattern.proofs.PlaceLemmas.{active-at}
use Rattle.aa_glob_pattern.proofs.places.Places.behind.Goals as goal
use Rattle.aa_glob_pattern.specs.Active.{next_past}

pub returns-clause-known : goal.returns-clause-known
returns-clause-known c = λ past k known own.
    let later = Some (next_past c.args.byte past) in
    let active =
    active-at c.args.element c.args.byte past k c.leading.result c.leading-2.result c.args.own c.active_behind-is_active.result
    (c.leading.ensures past k known.0) (c.leading-2.ensures later k known.1) own c.active_behind-is_active.ensures
    in (
      c.behind.ensures.known past k known.0 own,
      c.behind-2.ensures.known later k known.1 active,
    )
