use Rattle.std.proofs.Common.{◌≡◌, ◌∙◌, ◌∷◌, ◌+◌, ◌≤◌, ◌++◌, ap, arith, count_by, drop, length, subst, sym, take}
use Rattle.std.specs.Prelude.{flat_map}
use Rattle.std.proofs.lemmas.List.{length-map, take-map}
use Rattle.std.specs.List.{drop-map}
use Rattle.aatry_test.specs.Differences.{differs, part_of, part_text, parts}
use Rattle.aatry_transcripts.specs.Replies.{told_next}
use Rattle.aatry_transcripts.specs.Transcripts.{texts}
use Rattle.aatry_test.proofs.CompareLemmas.{counted-step, told-step}
use Rattle.aatry_test.proofs.comparing.push_parts.Goals as goal

-- The line and those behind it are the next part and the parts behind that.
pub loop-at-preserved : goal.loop-at-preserved
loop-at-preserved c =
    let so_far = c.loop-at.invariant in
    let path = c.args.path.now in
    let lines = c.args.lines.now in
    let at = c.loop-at.at in
    let line = c.line_at-line.result.now in
    let behind = texts (drop (at + 1) lines) in
    let left = texts c.loop-at.left.now in
    let size = c.told_size-size.result in
    let next : texts (drop at lines) ≡ line ∷ behind = c.line_at-line.ensures in
    let here : texts c.lines_behind-behind.result.now ≡ behind = ap texts c.lines_behind-behind.ensures in
    let within : size ≤ length left = omega (arith, c.told_size-size.ensures.within, length-map c.loop-at.left.now (λ l. l.now)) in
    let is : take size left ≡ told_next line behind left = subst (λ ls. take size left ≡ told_next line ls left) here c.told_size-size.ensures.value in
    let taken : texts (take size c.loop-at.left.now) ≡ take size left = sym (take-map (λ l. l.now) size c.loop-at.left.now) in
    let own = ap (λ ls. part_of (at + 1) line ls (texts (take size c.loop-at.left.now))) here ∙ ap (part_of (at + 1) line behind) taken in
    let rest : drop size left ≡ texts c.lines_behind-left.result.now = drop-map (λ l. l.now) size c.loop-at.left.now ∙ sym (ap texts c.lines_behind-left.ensures) in
    record {
      told = subst (λ ls. c.push_line.new.out.items ++ flat_map (part_text path) (parts (at + 1 + 1) behind ls)
          ≡ c.args.out.now.items ++ flat_map (part_text path) (parts 1 (texts lines) (texts c.args.told.now))) rest
          (told-step path (at + 1) line behind left size c.loop-at.out.items c.push_line.new.out.items _ within is
          (c.in_ok-differing.ensures.told ∙ ap (λ ps. c.loop-at.out.items ++ flat_map (part_text path) ps) own)
          (ap (λ ls. c.loop-at.out.items ++ flat_map (part_text path) (parts (at + 1) ls left)) (sym next) ∙ so_far.told));
      counted = subst (λ ls. c.loop-at.differing + c.in_ok-differing.field-0 + count_by differs (parts (at + 1 + 1) behind ls)
          ≡ count_by differs (parts 1 (texts lines) (texts c.args.told.now))) rest
          (counted-step (at + 1) line behind left size c.loop-at.differing c.in_ok-differing.field-0 _ within is
          (c.in_ok-differing.ensures.counted ∙ ap (count_by differs) own)
          (ap (λ ls. c.loop-at.differing + count_by differs (parts (at + 1) ls left)) (sym next) ∙ so_far.counted));
      few = omega (arith, so_far.few, c.in_ok-differing.ensures.few);
    }
