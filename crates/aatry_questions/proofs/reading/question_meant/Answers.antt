use Rattle.std.proofs.Common.{◌≡◌, Bor, IfErr, IfOk, Err, List, Ok, [], ℕ, subst, sym}
use Rattle.aa_set_commands.specs.Question.{seen_question}
use Rattle.aatry_questions.proofs.WordLemmas.{four-question, three-question}
use Rattle.aatry_questions.proofs.reading.question_meant.Goals as goal

pub returns-in-len3-clause-ok : goal.returns-in-len3-clause-ok
returns-in-len3-clause-ok c =
    let none : Bor (List ℕ) = record { ref_ptr = (0, 0); now = [] } in
    subst (λ read. IfOk c.of_name.result (λ question. read ≡ Ok (seen_question question)))
    (sym (three-question (λ word. word.now) c.args.words.now none c.in-len3.len_at_least c.in-len3.len_below)) c.of_name.ensures.ok

pub returns-in-len3-clause-refused : goal.returns-in-len3-clause-refused
returns-in-len3-clause-refused c =
    let none : Bor (List ℕ) = record { ref_ptr = (0, 0); now = [] } in
    subst (λ read. IfErr c.of_name.result (λ refusal. read ≡ Err refusal))
    (sym (three-question (λ word. word.now) c.args.words.now none c.in-len3.len_at_least c.in-len3.len_below)) c.of_name.ensures.refused

pub returns-in-len4-clause-ok : goal.returns-in-len4-clause-ok
returns-in-len4-clause-ok c =
    subst (λ read. IfOk c.read.result (λ question. read ≡ Ok (seen_question question)))
    (sym (four-question (λ word. word.now) c.args.words.now c.in-len4.len_at_least c.in-len4.len_below)) c.read.ensures.ok

pub returns-in-len4-clause-refused : goal.returns-in-len4-clause-refused
returns-in-len4-clause-refused c =
    subst (λ read. IfErr c.read.result (λ refusal. read ≡ Err refusal))
    (sym (four-question (λ word. word.now) c.args.words.now c.in-len4.len_at_least c.in-len4.len_below)) c.read.ensures.refused
