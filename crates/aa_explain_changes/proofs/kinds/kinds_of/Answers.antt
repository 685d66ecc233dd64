use Rattle.std.proofs.Common.{◌∙◌, ◌++◌, ap, arith, length, subst, sym}
use Rattle.std.specs.List.{All}
use Rattle.std.proofs.lemmas.List.Elements.{All-head, All-push, All-rest}
use Rattle.aa_glob_paths.specs.AllPaths.{IsOutcome}
use Rattle.aa_glob_paths.specs.Laws.{paths_of}
use Rattle.aa_explain_changes.specs.FileChanges.{changing_patterns}
use Rattle.aa_explain_changes.specs.Sides.{seen_sides}
use Rattle.aa_explain_changes.specs.code.Kinds.{IsKind, paths_of_kinds}
use Rattle.aa_explain_changes.proofs.KindLemmas.{paths-then}
use Rattle.aa_explain_changes.proofs.kinds.kinds_of.Goals as goal

pub loop-outcome-init : goal.loop-outcome-init
loop-outcome-init c = record {
  kinds = λ k d within. absurd (omega (arith, within, ap length c.in_ok-kinds.ensures.items));
  paths = λ i. paths_of_kinds (c.in_ok-kinds.ensures.items i) ++ paths_of (c.into_iter-outcome-iterator.ensures.into_iter_gives.0 i);
  outcomes = (c.requires.0, subst (All (IsOutcome (changing_patterns (seen_sides c.args.sides)) c.requires.0)) (sym c.into_iter-outcome-iterator.ensures.into_iter_gives.0) c.requires.1);
}

pub kind_of-requires-clause-outcome : goal.kind_of-requires-clause-outcome
kind_of-requires-clause-outcome c =
    let found = c.loop-outcome.invariant.outcomes in
    let is = IsOutcome (changing_patterns (seen_sides c.args.sides)) found.0 in
    (found.0, All-head is c.in-Some.outcome c.next.new.self.rest.items (subst (All is) c.in-Some.ensures.steps.0 found.1))

pub loop-outcome-preserved : goal.loop-outcome-preserved
loop-outcome-preserved c =
    let sides = seen_sides c.args.sides in
    let found = c.loop-outcome.invariant.outcomes in
    let more = c.next.new.self.rest.items in
    let kind = c.in_ok-kind_of.field-0 in
    let items = c.in_ok-push.ensures.items in
    record {
      kinds = subst (All (IsKind sides)) (sym items)
          (All-push (IsKind sides) c.loop-outcome.kinds.items kind c.loop-outcome.invariant.kinds c.in_ok-kind_of.ensures.kind);
      paths = ap (λ l. paths_of_kinds l ++ paths_of more) items ∙ paths-then c.loop-outcome.kinds.items kind c.in-Some.outcome more c.in_ok-kind_of.ensures.path
          ∙ ap (λ l. paths_of_kinds c.loop-outcome.kinds.items ++ paths_of l) (sym c.in-Some.ensures.steps.0) ∙ c.loop-outcome.invariant.paths;
      outcomes = (found.0, All-rest (IsOutcome (changing_patterns sides) found.0) c.in-Some.outcome more c.loop-outcome.outcome-iterator.rest.items c.in-Some.ensures.steps.0 found.1);
    }
