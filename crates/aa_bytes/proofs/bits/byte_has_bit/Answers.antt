use Rattle.aa_bytes.proofs.BitLemmas.{bit_is_set}
use Rattle.aa_bytes.proofs.bits.byte_has_bit.Goals as goal

pub returns : goal.returns
returns c = bit_is_set 8 c.args.byte c.args.number c.requires
