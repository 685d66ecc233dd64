use Rattle.std.proofs.Common.{subst}
use Rattle.aa_glob_paths.specs.AllPaths.{TellAllPaths}
use Rattle.aa_glob_paths.specs.Laws.{paths_of}
use Rattle.aa_explain_start_changes.specs.Patterns.{change_classes, change_patterns}
use Rattle.aa_explain_start_changes.specs.Starters.{seen_starters}
use Rattle.aa_explain_start_changes.specs.code.Telling.{AreChangesBy}
use Rattle.aa_explain_start_changes.proofs.WholeLemmas.{changes-standing}
use Rattle.aa_explain_start_changes.proofs.asking.start_changes.Goals as goal

pub returns-in_ok-changes_by-in-Some-clause-told : goal.returns-in_ok-changes_by-in-Some-clause-told
returns-in_ok-changes_by-in-Some-clause-told c =
    let starters = seen_starters c.args.starters in
    let outcomes = c.in-Some.outcomes.items in
    let changes = c.in_ok-changes_by-in-Some.field-0.items in
    let told : TellAllPaths (change_patterns starters) (change_classes starters) outcomes = rw c.in-Some.is at c.in_ok-changing_outcomes.ensures.told in
    let by : AreChangesBy starters (paths_of c.deref.result.now) changes =
    subst (λ who. AreChangesBy (seen_starters who) (paths_of c.deref.result.now) changes) c.in_ok-ready-in-Some.ensures c.in_ok-changes_by-in-Some.ensures in
    changes-standing starters outcomes c.outcomes_stand_for_all.ensures.all c.how_starts_depend_on_paths.ensures.alike c.how_starts_depend_on_paths.ensures.wanted
    told changes (subst (λ os. AreChangesBy starters (paths_of os) changes) c.deref.ensures.value by)
