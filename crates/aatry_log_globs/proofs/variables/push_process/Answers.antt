use Rattle.std.proofs.Common.{◌≡◌, ◌+◌, ◌++◌, ◌==◌, ◌∙◌, ap, append_assoc, codes, drop, false, length, sym}
use Rattle.std.proofs.lemmas.Bool.{ne_eqb}
use Rattle.aatry_log_globs.specs.Variables.{bytes_of, process_parts, task_parts, texts_of}
use Rattle.aatry_log_globs.proofs.FrontLemmas.{process-bytes, process-texts}
use Rattle.aatry_log_globs.proofs.variables.push_process.Goals as goal

pub returns-clause-pattern : goal.returns-clause-pattern
returns-clause-pattern c =
    let size = c.number_size-size.result in
    let path = c.args.path.now in
    let out = c.args.out.now.items in
    let some : (size == 0) ≡ false = ne_eqb size 0 c.if-size-eq0.false in
    c.in_ok-task.ensures.pattern
    ∙ ap (λ text. text ++ texts_of (task_parts c.behind.result.now)) c.in_ok-extend_from_slice.ensures.items
    ∙ append_assoc out (codes "@{PROC}/@{pid}") (texts_of (task_parts c.behind.result.now))
    ∙ ap (λ rest. out ++ (codes "@{PROC}/@{pid}" ++ texts_of (task_parts rest))) c.behind.ensures
    ∙ ap (λ text. out ++ text) (sym (process-texts path size c.number_size-size.ensures.value some))

pub returns-clause-size : goal.returns-clause-size
returns-clause-size c =
    let size = c.number_size-size.result in
    let path = c.args.path.now in
    let some : (size == 0) ≡ false = ne_eqb size 0 c.if-size-eq0.false in
    ap (λ task. 6 + size + task) (c.in_ok-task.ensures.size ∙ ap (λ rest. length (bytes_of (task_parts rest))) c.behind.ensures)
    ∙ sym (process-bytes path size c.number_size-size.ensures.value some c.number_size-size.ensures.within)
