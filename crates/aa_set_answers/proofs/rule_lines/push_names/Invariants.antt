use Rattle.std.proofs.Common.{◌≡◌, ◌++◌, ◌+◌, length, map}
use Rattle.aa_set_answers.specs.RuleLines.{names_from}
use Rattle.aa_set_answers.proofs.rule_lines.push_names.Given as goal

-- the text so far, with the names that are left, is all; and the first of these stands at the number
abbrev pub invariant-loop-rest : goal.invariant-loop-rest
invariant-loop-rest l = record {
  written : l.text.items ++ names_from l.rule.caps l.number (map (λ name. name.now) l.rest) ≡ l.initial.text.items ++ names_from l.rule.caps 0 (map (λ name. name.now) l.names);
  at : l.number + length l.rest ≡ length l.names;
}

abbrev pub decreases-loop-rest : goal.decreases-loop-rest
decreases-loop-rest l = length l.rest
