use Rattle.std.proofs.Common.{◌∙◌, ◌&&◌, ap, drop, length, sym}
use Rattle.std.specs.Str.{bytes_eq}
use Rattle.aatry_transcripts.specs.Meeting.{left_out}
use Rattle.aatry_transcripts.proofs.MeetLemmas.{stands_for-parts}
use Rattle.aatry_transcripts.proofs.meeting.stands_for.Goals as goal

pub returns-then-begins_with : goal.returns-then-begins_with
returns-then-begins_with c =
    let wanted = c.args.wanted.now in
    let line = c.args.line.now in
    c.eq.ensures ∙ ap (λ text. bytes_eq text left_out) c.behind.ensures
    ∙ ap (λ begins. begins && bytes_eq (drop (length line) wanted) left_out) (sym c.if-begins_with.true ∙ c.begins_with.ensures.value)
    ∙ stands_for-parts wanted line

pub returns-else-begins_with : goal.returns-else-begins_with
returns-else-begins_with c =
    let wanted = c.args.wanted.now in
    let line = c.args.line.now in
    c.if-begins_with.false
    ∙ ap (λ begins. begins && bytes_eq (drop (length line) wanted) left_out) (sym c.if-begins_with.false ∙ c.begins_with.ensures.value)
    ∙ stands_for-parts wanted line
