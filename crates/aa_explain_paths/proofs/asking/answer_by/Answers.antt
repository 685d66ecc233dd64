use Rattle.std.proofs.Common.{◌∙◌, ap, subst, sym}
use Rattle.std.specs.List.{All}
use Rattle.std.specs.Prelude.{option_map}
use Rattle.std.proofs.lemmas.List.Elements.{All-head, All-rest}
use Rattle.aa_glob_paths.specs.AllPaths.{IsOutcome}
use Rattle.aa_explain_paths.specs.Answers.{seen_breaking}
use Rattle.aa_explain_paths.specs.Meant.{unasked_patterns}
use Rattle.aa_explain_paths.specs.SeenAsked.{seen_asked}
use Rattle.aa_explain_paths.specs.Telling.{all_classes, telling_patterns}
use Rattle.aa_explain_paths.specs.code.Breaking.{first_break, says_otherwise}
use Rattle.aa_explain_paths.proofs.BreakingLemmas.{passed-over}
use Rattle.aa_explain_paths.proofs.asking.answer_by.Goals as goal

pub breaking_at-requires-clause-outcome : goal.breaking_at-requires-clause-outcome
breaking_at-requires-clause-outcome c =
    let rules = c.args.rules.now in
    let patterns = c.args.question.patterns.now in
    let is = IsOutcome (telling_patterns rules patterns unasked_patterns) (all_classes rules patterns unasked_patterns) in
    All-head is c.in-Some.outcome c.next.new.self.rest.items (subst (All is) c.in-Some.ensures.steps.0 c.loop-outcome.invariant.outcomes)

-- a path that doesn't say otherwise is passed over
pub loop-outcome-preserved : goal.loop-outcome-preserved
loop-outcome-preserved c =
    let rules = c.args.rules.now in
    let patterns = c.args.question.patterns.now in
    let asked = seen_asked c.args.question in
    let more = c.next.new.self.rest.items in
    let none = ap (option_map seen_breaking) (sym c.in-None-2.is) ∙ c.in_ok-breaking.ensures in
    record {
      decides = sym (passed-over rules asked c.in-Some.outcome more (sym none))
          ∙ ap (first_break (says_otherwise rules asked)) (sym c.in-Some.ensures.steps.0) ∙ c.loop-outcome.invariant.decides;
      outcomes = All-rest (IsOutcome (telling_patterns rules patterns unasked_patterns) (all_classes rules patterns unasked_patterns)) c.in-Some.outcome more
          c.loop-outcome.outcome-iterator.rest.items c.in-Some.ensures.steps.0 c.loop-outcome.invariant.outcomes;
    }
