use Rattle.std.proofs.Common.{◌∙◌, ◌++◌, ap, arith, length, map, subst, sym}
use Rattle.std.specs.List.{All}
use Rattle.std.proofs.lemmas.List.Elements.{All-head, All-push, All-rest}
use Rattle.aa_glob_paths.specs.Laws.{paths_of}
use Rattle.aa_explain_redundant.specs.Left.{rules_among}
use Rattle.aa_explain_redundant.specs.Seen.{seen_numbered}
use Rattle.aa_explain_redundant.specs.code.Kinds.{IsKind, IsOutcomeOf, paths_of_kinds}
use Rattle.aa_explain_redundant.proofs.KindLemmas.{paths-then}
use Rattle.aa_explain_redundant.proofs.kinds.kinds_of.Goals as goal

pub loop-outcome-init : goal.loop-outcome-init
loop-outcome-init c = record {
  kinds = λ k d within. absurd (omega (arith, within, ap length c.in_ok-kinds.ensures.items));
  paths = λ i. paths_of_kinds (c.in_ok-kinds.ensures.items i) ++ paths_of (c.into_iter-outcome-iterator.ensures.into_iter_gives.0 i);
  outcomes = subst (All (IsOutcomeOf (rules_among (map seen_numbered c.args.rules.now)))) (sym c.into_iter-outcome-iterator.ensures.into_iter_gives.0) c.requires.outcomes;
}

pub kind_of-requires-clause-outcome : goal.kind_of-requires-clause-outcome
kind_of-requires-clause-outcome c =
    let is = IsOutcomeOf (rules_among (map seen_numbered c.args.rules.now)) in
    All-head is c.in-Some.outcome c.next.new.self.rest.items (subst (All is) c.in-Some.ensures.steps.0 c.loop-outcome.invariant.outcomes)

pub loop-outcome-preserved : goal.loop-outcome-preserved
loop-outcome-preserved c =
    let rules = map seen_numbered c.args.rules.now in
    let more = c.next.new.self.rest.items in
    let kind = c.in_ok-kind_of.field-0 in
    let items = c.in_ok-push.ensures.items in
    record {
      kinds = subst (All (IsKind rules)) (sym items)
          (All-push (IsKind rules) c.loop-outcome.kinds.items kind c.loop-outcome.invariant.kinds c.in_ok-kind_of.ensures.kind);
      paths = ap (λ l. paths_of_kinds l ++ paths_of more) items ∙ paths-then c.loop-outcome.kinds.items kind c.in-Some.outcome more c.in_ok-kind_of.ensures.path
          ∙ ap (λ l. paths_of_kinds c.loop-outcome.kinds.items ++ paths_of l) (sym c.in-Some.ensures.steps.0) ∙ c.loop-outcome.invariant.paths;
      outcomes = All-rest (IsOutcomeOf (rules_among rules)) c.in-Some.outcome more c.loop-outcome.outcome-iterator.rest.items c.in-Some.ensures.steps.0 c.loop-outcome.invariant.outcomes;
    }
