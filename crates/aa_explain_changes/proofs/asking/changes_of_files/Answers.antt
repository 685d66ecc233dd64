use Rattle.std.proofs.Common.{◌≡◌, ◌∙◌, ◌++◌, [], arith, map, refl, subst, sym}
use Rattle.std.proofs.lemmas.Bool.{eqb-true}
use Rattle.std.specs.List.{All}
use Rattle.aa_explain_changes.proofs.StandLemmas.{new-held, none-in, old-held, told-empty, told-standing}
use Rattle.aa_explain_changes.specs.FileChanges.{changing_patterns}
use Rattle.aa_explain_changes.specs.Lone.{lone_patterns, patterns_of, seen_lone}
use Rattle.aa_explain_changes.specs.Sides.{seen_sides}
use Rattle.aa_explain_changes.specs.code.Kinds.{AreToldBy, IsKind, changing_classes, paths_of_kinds}
use Rattle.aa_glob_paths.specs.AllPaths.{TellAllPaths}
use Rattle.aa_explain_changes.proofs.asking.changes_of_files.Goals as goal

pub returns-then-is_empty : goal.returns-then-is_empty
returns-then-is_empty c =
    let sides = seen_sides c.args.sides in
    let old = c.in_ok-lone.ensures.old in
    let new = c.in_ok-lone.ensures.new in
    let wanted = c.in_ok-wanted.wanted in
    let none = eqb-true wanted.len 0 (sym c.is_empty.ensures ∙ c.if-is_empty.true) in
    let empty : wanted.items ≡ [] = none-in wanted.items (omega (arith, wanted.ok.0, none)) in
    let nobody : lone_patterns sides ≡ [] = (λ i. patterns_of (sym old i) ++ patterns_of (sym new i)) ∙ sym c.in_ok-wanted.ensures ∙ empty in
    told-empty c.changed_rules_decide.ensures sides (map seen_lone c.in_ok-lone.lone.old.items) (map seen_lone c.in_ok-lone.lone.new.items) old new []
    c.in_ok-told_by.field-0 c.in_ok-told_by.ensures refl nobody

pub told_by-requires-clause-kinds : goal.told_by-requires-clause-kinds
told_by-requires-clause-kinds c = λ k d within. absurd (omega (arith, within))

pub told_by-requires-clause-old : goal.told_by-requires-clause-old
told_by-requires-clause-old c = old-held (seen_sides c.args.sides) (map seen_lone c.in_ok-lone.lone.old.items) c.in_ok-lone.ensures.old

pub told_by-requires-clause-new : goal.told_by-requires-clause-new
told_by-requires-clause-new c = new-held (seen_sides c.args.sides) (map seen_lone c.in_ok-lone.lone.new.items) c.in_ok-lone.ensures.new

pub told_by-requires-in-Some-clause-kinds : goal.told_by-requires-in-Some-clause-kinds
told_by-requires-in-Some-clause-kinds c = subst (All (IsKind (seen_sides c.args.sides))) (sym c.deref-in-Some.ensures.value) c.in_ok-kinds-in-Some.ensures.kinds

pub told_by-requires-in-Some-clause-old : goal.told_by-requires-in-Some-clause-old
told_by-requires-in-Some-clause-old c = old-held (seen_sides c.args.sides) (map seen_lone c.in_ok-lone.lone.old.items) c.in_ok-lone.ensures.old

pub told_by-requires-in-Some-clause-new : goal.told_by-requires-in-Some-clause-new
told_by-requires-in-Some-clause-new c = new-held (seen_sides c.args.sides) (map seen_lone c.in_ok-lone.lone.new.items) c.in_ok-lone.ensures.new

pub kinds_of-requires : goal.kinds_of-requires
kinds_of-requires c =
    let sides = seen_sides c.args.sides in
    let told : TellAllPaths (changing_patterns sides) (changing_classes sides) c.in-Some.outcomes.items = rw c.in-Some.is at c.in_ok-changing_outcomes.ensures.told in
    (changing_classes sides, told.each_outcome)

pub returns : goal.returns
returns c =
    let sides = seen_sides c.args.sides in
    let before = map seen_lone c.in_ok-lone.lone.old.items in
    let now = map seen_lone c.in_ok-lone.lone.new.items in
    let changes = c.in_ok-told_by-in-Some.field-0 in
    let told : TellAllPaths (changing_patterns sides) (changing_classes sides) c.in-Some.outcomes.items = rw c.in-Some.is at c.in_ok-changing_outcomes.ensures.told in
    let tells : AreToldBy sides (paths_of_kinds c.in_ok-kinds-in-Some.kinds.items) before now changes =
    subst (λ kinds. AreToldBy sides (paths_of_kinds kinds) before now changes) c.deref-in-Some.ensures.value c.in_ok-told_by-in-Some.ensures in
    told-standing c.changed_rules_decide.ensures sides before now c.in_ok-lone.ensures.old c.in_ok-lone.ensures.new c.in_ok-kinds-in-Some.kinds.items
    changes tells c.outcomes_stand_for_all.ensures.all c.in-Some.outcomes.items told c.in_ok-kinds-in-Some.ensures.paths
