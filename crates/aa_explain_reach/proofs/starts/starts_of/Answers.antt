use Rattle.std.proofs.Common.{subst}
use Rattle.std.specs.Option.{option_map}
use Rattle.aa_decide.specs.SeenExec.{seen_asker}
use Rattle.aa_decide_ready.specs.Slots.{filled}
use Rattle.aa_explain_reach.specs.Patterns.{start_classes, start_patterns}
use Rattle.aa_explain_reach.specs.code.Telling.{AreStartsBy}
use Rattle.aa_glob_paths.specs.AllPaths.{TellAllPaths}
use Rattle.aa_glob_paths.specs.Laws.{paths_of}
use Rattle.aa_explain_reach.proofs.WholeLemmas.{starts-standing}
use Rattle.aa_explain_reach.proofs.starts.starts_of.Goals as goal

pub returns-in_ok-starts_by-in-Some-clause-told : goal.returns-in_ok-starts_by-in-Some-clause-told
returns-in_ok-starts_by-in-Some-clause-told c =
    let slots = c.args.slots.now in
    let asker = option_map seen_asker c.args.asker in
    let outcomes = c.in-Some.outcomes.items in
    let starts = c.in_ok-starts_by-in-Some.field-0.items in
    let told : TellAllPaths (start_patterns (filled c.as_slice.result.now) asker) (start_classes (filled c.as_slice.result.now) asker) outcomes =
    rw c.in-Some.is at c.in_ok-starting_outcomes.ensures.told in
    let by : AreStartsBy slots asker (paths_of c.deref.result.now) starts =
    subst (λ who. AreStartsBy slots (option_map seen_asker who) (paths_of c.deref.result.now) starts) c.in_ok-ready-in-Some.ensures c.in_ok-starts_by-in-Some.ensures in
    starts-standing slots asker outcomes c.outcomes_stand_for_all.ensures.all
    (subst (λ s. TellAllPaths (start_patterns (filled s) asker) (start_classes (filled s) asker) outcomes) c.as_slice.ensures told)
    starts (subst (λ os. AreStartsBy slots asker (paths_of os) starts) c.deref.ensures.value by)
