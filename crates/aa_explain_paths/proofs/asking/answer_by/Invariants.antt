use Rattle.std.proofs.Common.{◌≡◌}
use Rattle.std.specs.List.{All}
use Rattle.aa_glob_paths.specs.AllPaths.{IsOutcome}
use Rattle.aa_explain_paths.specs.Meant.{unasked_patterns}
use Rattle.aa_explain_paths.specs.SeenAsked.{seen_asked}
use Rattle.aa_explain_paths.specs.Telling.{all_classes, telling_patterns}
use Rattle.aa_explain_paths.specs.code.Breaking.{first_break, says_otherwise}
use Rattle.aa_explain_paths.proofs.asking.answer_by.Given as goal

-- none so far says otherwise: the others decide
abbrev pub invariant-loop-outcome : goal.invariant-loop-outcome
invariant-loop-outcome l = record {
  decides : first_break (says_otherwise l.rules (seen_asked l.question)) l.outcome-iterator.rest.items
      ≡ first_break (says_otherwise l.rules (seen_asked l.question)) l.fn.found.items;
  outcomes : All (IsOutcome (telling_patterns l.rules l.question.patterns.now unasked_patterns) (all_classes l.rules l.question.patterns.now unasked_patterns)) l.outcome-iterator.rest.items;
}
