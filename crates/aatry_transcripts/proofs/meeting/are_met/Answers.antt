use Rattle.std.proofs.Common.{◌≡◌, ◌∙◌, ◌+◌, ◌<◌, ap, arith, drop, sym}
use Rattle.std.specs.Prelude.{Some}
use Rattle.std.specs.List.{drop-map}
use Rattle.aatry_transcripts.specs.Meeting.{are_met, behind_met}
use Rattle.aatry_transcripts.specs.Transcripts.{texts}
use Rattle.aatry_transcripts.proofs.MeetLemmas.{met-none, met-step}
use Rattle.aatry_transcripts.proofs.meeting.are_met.Goals as goal

-- the wanted line that comes next is met, and those behind it are left
pub loop-at-preserved : goal.loop-at-preserved
loop-at-preserved c =
    let line = c.line_at.result.now in
    let more = texts (drop (c.loop-at.at + 1) c.args.wanted.now) in
    let told = texts c.loop-at.left.now in
    let left = texts c.lines_behind-left.result.now in
    let some : 0 < c.met_size-size.result = omega arith in
    let rest : Some left ≡ behind_met line told =
    ap (λ ls. Some (texts ls)) c.lines_behind-left.ensures ∙ ap (λ ls. Some ls) (sym (drop-map (λ l. l.now) c.met_size-size.result c.loop-at.left.now))
    ∙ sym (c.met_size-size.ensures.met some) in
    met-step line more told left _ rest (ap (λ ls. are_met ls told) (sym c.line_at.ensures) ∙ c.loop-at.invariant)

-- or it isn't
pub returns-then-size-eq0 : goal.returns-then-size-eq0
returns-then-size-eq0 c =
    let line = c.line_at.result.now in
    let more = texts (drop (c.loop-at.at + 1) c.args.wanted.now) in
    let told = texts c.loop-at.left.now in
    met-none line more told _ (sym (c.met_size-size.ensures.unmet c.if-size-eq0.true)) (ap (λ ls. are_met ls told) (sym c.line_at.ensures) ∙ c.loop-at.invariant)
