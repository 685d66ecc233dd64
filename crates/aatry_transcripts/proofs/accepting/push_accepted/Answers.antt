use Rattle.std.proofs.Common.{◌≡◌, ◌∙◌, ◌∷◌, ◌+◌, ◌≤◌, ◌++◌, ap, arith, drop, length, map, subst, sym, take}
use Rattle.std.specs.List.{drop-map}
use Rattle.std.specs.Str.Lines.{strip_carriage_return}
use Rattle.std.proofs.lemmas.List.{length-map, take-map}
use Rattle.aatry_transcripts.specs.Accepting.{accepted_from, accepted_line, accepted_lines, ended, stay_behind, told_to, wanted_behind}
use Rattle.aatry_transcripts.specs.Replies.{told_next}
use Rattle.aatry_transcripts.specs.Transcripts.{before_command, texts, wanted_in}
use Rattle.aatry_transcripts.proofs.AcceptLemmas.{accepted-step, first_is, lined}
use Rattle.aatry_transcripts.proofs.accepting.push_accepted.Goals as goal

-- What becomes of the line stands behind the text.
pub loop-at-preserved : goal.loop-at-preserved
loop-at-preserved c =
    let raw = c.args.raw.now in
    let at = c.loop-at.at in
    let line = c.line_at-line.result.now in
    let whole = c.line_at-whole.result.now in
    let after = texts (drop (at + 1) raw) in
    let left = texts c.loop-at.left.now in
    let size = c.told_size-size.result in
    let next : texts (drop at raw) ≡ whole ∷ after = c.line_at-whole.ensures in
    let same : line ≡ strip_carriage_return whole =
    first_is line whole (texts (drop (at + 1) c.args.lines.now)) after (texts (drop at c.args.lines.now)) (texts (drop at raw)) c.line_at-line.ensures next
    (lined (λ l. l.now) (λ l. l.now) c.args.lines.now raw at c.requires) in
    let here : texts c.lines_behind-behind.result.now ≡ map strip_carriage_return after =
    ap texts c.lines_behind-behind.ensures ∙ lined (λ l. l.now) (λ l. l.now) c.args.lines.now raw (at + 1) c.requires in
    let within : size ≤ length left = omega (arith, c.told_size-size.ensures.within, length-map c.loop-at.left.now (λ l. l.now)) in
    let taken : texts (take size c.loop-at.left.now) ≡ take size left = sym (take-map (λ l. l.now) size c.loop-at.left.now) in
    let is : take size left ≡ told_to whole after left =
    c.told_size-size.ensures.value ∙ ap (λ l. told_next l (texts c.lines_behind-behind.result.now) left) same
    ∙ ap (λ ls. told_next (strip_carriage_return whole) ls left) here in
    let wanted : wanted_in (before_command (texts c.lines_behind-behind.result.now)) ≡ wanted_behind after = ap (λ ls. wanted_in (before_command ls)) here in
    let rest : drop size left ≡ texts c.lines_behind-left.result.now = drop-map (λ l. l.now) size c.loop-at.left.now ∙ sym (ap texts c.lines_behind-left.ensures) in
    subst (λ ls. c.push_accepted_line.new.out.items ++ ended (accepted_from c.in_ok-stays.stays after ls)
    ≡ c.args.out.now.items ++ ended (accepted_lines (texts raw) (texts c.args.told.now))) rest
    (accepted-step c.loop-at.stays c.in_ok-stays.stays whole after left size c.loop-at.out.items c.push_accepted_line.new.out.items _ within is
    (c.in_ok-stays.ensures.stay ∙ ap (λ w. stay_behind c.loop-at.stays whole w (texts (take size c.loop-at.left.now))) wanted
    ∙ ap (λ ls. stay_behind c.loop-at.stays whole (wanted_behind after) ls) taken)
    (c.in_ok-stays.ensures.told ∙ ap (λ w. c.loop-at.out.items ++ ended (accepted_line c.loop-at.stays whole w (texts (take size c.loop-at.left.now)))) wanted
    ∙ ap (λ ls. c.loop-at.out.items ++ ended (accepted_line c.loop-at.stays whole (wanted_behind after) ls)) taken)
    (ap (λ ls. c.loop-at.out.items ++ ended (accepted_from c.loop-at.stays ls left)) (sym next) ∙ c.loop-at.invariant))
