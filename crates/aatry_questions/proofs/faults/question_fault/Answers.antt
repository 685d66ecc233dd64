use Rattle.std.proofs.Common.{Bor, List, [], ℕ, sym, ◌∙◌}
use Rattle.aatry_questions.proofs.WordLemmas.{six-fault, two-fault}
use Rattle.aatry_questions.proofs.faults.question_fault.Goals as goal

pub returns-in-len2 : goal.returns-in-len2
returns-in-len2 c =
    let none : Bor (List ℕ) = record { ref_ptr = (0, 0); now = [] } in
    c.kind_fault-in-len2.ensures ∙ sym (two-fault (λ word. word.now) c.args.words.now none c.in-len2.len_at_least c.in-len2.len_below)

pub returns-in-len6-up : goal.returns-in-len6-up
returns-in-len6-up c =
    let none : Bor (List ℕ) = record { ref_ptr = (0, 0); now = [] } in
    c.kind_fault-in-len6-up.ensures ∙ sym (six-fault (λ word. word.now) c.args.words.now none c.in-len6-up.len_at_least)
