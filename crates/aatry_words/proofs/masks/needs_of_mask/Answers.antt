use Rattle.std.proofs.Common.{◌≡◌, Some, get_or, sym, ◌∙◌, arith}
use Rattle.aa_profile_data.specs.Access.{bit_of}
use Rattle.aatry_words.specs.Masks.{asked_letter}
use Rattle.aatry_words.proofs.MaskLemmas.{needs_onto-next, union-known}
use Rattle.aatry_words.proofs.masks.needs_of_mask.Goals as goal

pub loop-letter-preserved : goal.loop-letter-preserved
loop-letter-preserved c =
    let set = c.loop-letter.set.0 in
    let mask = c.args.mask.now in
    let at = c.loop-letter.letter-index in
    let bit = c.in_ok-need_of.field-0.0 in
    let known : bit_of (asked_letter (get_or mask at 0)) ≡ Some bit = sym c.in_ok-need_of.ensures in
    let joined = c.union-set.ensures in
    record {
      needs = rw joined (sym (needs_onto-next set mask at bit (omega arith) known) ∙ c.loop-letter.invariant.needs);
      known = rw joined (union-known set (asked_letter (get_or mask at 0)) bit c.loop-letter.invariant.known known);
    }
