use Rattle.std.proofs.Common.{◌≡◌, Some, get_or, false, sym, ◌∙◌, arith}
use Rattle.aa_profile_data.specs.Access.{bit_of, has}
use Rattle.aa_profile_data.proofs.AccessLemmas.{letters_onto-next, union-known}
use Rattle.aa_profile_data.proofs.access.Perms.of_letters.Goals as goal

pub loop-letter-preserved : goal.loop-letter-preserved
loop-letter-preserved c =
    let set = c.loop-letter.set.0 in
    let letters = c.args.letters.now in
    let at = c.loop-letter.letter-index in
    let bit = c.in_ok-letter.letter.0 in
    let known : bit_of (get_or letters at 0) ≡ Some bit = sym c.in_ok-letter.ensures in
    let fresh : has set bit ≡ false = cc (c.contains.ensures tt) in
    let joined = c.union-set.ensures tt in
    record {
      needs = rw joined (sym (letters_onto-next set letters at bit (omega arith) known fresh) ∙ c.loop-letter.invariant.needs);
      known = rw joined (union-known set (get_or letters at 0) bit c.loop-letter.invariant.known known);
    }
