use Rattle.std.proofs.Common.{◌≡◌, ◌&&◌, nat_lt, sym, ◌∙◌, ap, arith}
use Rattle.aa_bytes.specs.ByteSets.{has}
use Rattle.aa_glob_nfa.proofs.MapLemmas.{above, below, up_to-next}
use Rattle.aa_glob.proofs.element.map_of.Goals as goal

pub loop-byte-init : goal.loop-byte-init
loop-byte-init c = λ b. c.new-map.ensures b ∙ sym (ap (λ t. t && has c.args.set.now b) (above b 0 (omega arith)))

pub loop-byte-preserved : goal.loop-byte-preserved
loop-byte-preserved c = λ b. c.put_if_had.ensures b ∙ up_to-next (has c.args.set.now) c.loop-byte.byte _ b (c.loop-byte.invariant b)

pub returns : goal.returns
returns c = λ b within.
    let last : c.loop-byte.byte ≡ 255 = omega (arith, c.loop-byte-test.false, c.loop-byte.auto.byte-end) in
    c.put_if_had-2.ensures b
    ∙ up_to-next (has c.args.set.now) 255 _ b (c.loop-byte.invariant b ∙ ap (λ at. nat_lt b at && has c.args.set.now b) last)
    ∙ ap (λ t. t && has c.args.set.now b) (below b 256 within)
