use Rattle.std.proofs.Common.{◌≡◌, ◌++◌, drop}
use Rattle.aa_set_answers.specs.Children.{lines_from}
use Rattle.aa_set_answers.specs.Show.{child_line}
use Rattle.aa_set_answers.proofs.show.push_child_lines.Given as goal

-- the text so far, with the lines of what is left, is all
abbrev pub invariant-loop-place : goal.invariant-loop-place
invariant-loop-place l =
    l.text.items ++ lines_from (child_line l.entry) l.place (drop l.place l.children) ≡ l.initial.text.items ++ lines_from (child_line l.entry) 0 l.children
