use Rattle.std.proofs.Common.{refl}
use Rattle.aa_glob_nfa.proofs.packed_state.PackedState.ending.Goals as goal

pub returns : goal.returns
returns c =
    let is = c.byte_with_bit.ensures in
    rw (is 0, is 1, is 2, is 3) refl
