use Rattle.std.proofs.Common.{◌≡◌, ◌++◌, drop, flat_map}
use Rattle.aa_set_answers.specs.Show.{attachment_line}
use Rattle.aa_set_answers.proofs.show.push_attachments.Given as goal

-- the text so far, with the lines of what is left, is all
abbrev pub invariant-loop-pattern : goal.invariant-loop-pattern
invariant-loop-pattern l = l.text.items ++ flat_map attachment_line (drop l.pattern-index l.patterns) ≡ l.initial.text.items ++ flat_map attachment_line l.patterns
