use Rattle.aa_bytes.proofs.BitLemmas.{byte_has_bit-set}
use Rattle.aa_bytes.proofs.bits.byte_with_bit.Goals as goal

pub returns : goal.returns
returns c = byte_has_bit-set c.args.byte c.args.number c.requires
