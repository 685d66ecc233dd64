use Rattle.std.proofs.Common.{rules, sym, ◌∙◌}
use Rattle.aa_profile_data.proofs.WrittenLemmas.{letter_behind}
use Rattle.aa_profile_data.proofs.written.WrittenAccess.of_text.Goals as goal

pub loop-rest-preserved : goal.loop-rest-preserved
loop-rest-preserved c =
    let read = letter_behind c.loop-rest.written c.loop-rest.rest.now c.in_ok-told_letter.field-0.0 c.in-len1-up.len_at_least (search rules) (sym c.in_ok-told_letter.ensures) in
    rw (c.with_letter-written.ensures) (sym read ∙ c.loop-rest.invariant)
