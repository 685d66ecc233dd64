use Rattle.std.proofs.Common.{◌∙◌, arith, refl, sym}
use Rattle.aa_glob_pairs.proofs.EncodingLemmas.{at_end, far_next, is_within, near_next}
use Rattle.aa_glob_pairs.proofs.encoding.next_place.Goals as goal

pub overflow_add-result : goal.overflow_add-result
overflow_add-result c =
    let within = is_within c.args.place c.args.bytes.now c.in-Some.byte c.requires.encoded c.requires.stands (sym c.byte_at.ensures ∙ c.in-Some.is) in
    omega (arith, within.0, within.1)

pub overflow_add-result-in-Some-2 : goal.overflow_add-result-in-Some-2
overflow_add-result-in-Some-2 c =
    let near = near_next c.args.place c.args.bytes.now c.in-Some.byte c.requires.encoded c.requires.stands (sym c.byte_at.ensures ∙ c.in-Some.is) c.if-byte-lt-FAR.true in
    omega (arith, near.0)

pub overflow_add-result-in-Some-2-2 : goal.overflow_add-result-in-Some-2-2
overflow_add-result-in-Some-2-2 c =
    let within = is_within c.args.place c.args.bytes.now c.in-Some.byte c.requires.encoded c.requires.stands (sym c.byte_at.ensures ∙ c.in-Some.is) in
    omega (arith, within.0, within.1)

pub state_at-requires : goal.state_at-requires
state_at-requires c =
    let far = far_next c.args.place c.args.bytes.now c.in-Some.byte c.requires.encoded c.requires.stands (sym c.byte_at.ensures ∙ c.in-Some.is) c.if-byte-lt-FAR.false in
    omega (arith, far.0)

pub returns-in-None : goal.returns-in-None
returns-in-None c = at_end c.args.place c.args.bytes.now c.requires.encoded c.requires.stands (sym c.byte_at.ensures ∙ c.in-None.is)

pub returns-in-Some : goal.returns-in-Some
returns-in-Some c =
    let near = near_next c.args.place c.args.bytes.now c.in-Some.byte c.requires.encoded c.requires.stands (sym c.byte_at.ensures ∙ c.in-Some.is) c.if-byte-lt-FAR.true in
    record { index = refl; state = near.1; stands = near.2 }

pub returns-in-Some-2 : goal.returns-in-Some-2
returns-in-Some-2 c =
    let far = far_next c.args.place c.args.bytes.now c.in-Some.byte c.requires.encoded c.requires.stands (sym c.byte_at.ensures ∙ c.in-Some.is) c.if-byte-lt-FAR.false in
    let next = far.1 c.state_at.result c.state_at.ensures in
    record { index = refl; state = next.0; stands = next.1 }
