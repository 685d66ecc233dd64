use Rattle.std.proofs.Common.{◌≡◌, ◌++◌, flat_map, length}
use Rattle.aa_set_answers.specs.StackNames.{behind_another}
use Rattle.aa_set_answers.specs.code.SeenNames.{seen_names}
use Rattle.aa_set_answers.proofs.stacks.push_others.Given as goal

-- the text so far, with the names that are left behind it, is all
abbrev pub invariant-loop-name : goal.invariant-loop-name
invariant-loop-name l = l.text.items ++ flat_map behind_another (seen_names l.names) ≡ l.initial.text.items ++ flat_map behind_another (seen_names l.initial.names)

abbrev pub decreases-loop-name : goal.decreases-loop-name
decreases-loop-name l = length l.names.keys
