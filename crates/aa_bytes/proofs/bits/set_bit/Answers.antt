use Rattle.aa_bytes.proofs.BitLemmas.{has_bit-set}
use Rattle.aa_bytes.proofs.bits.set_bit.Goals as goal

pub returns : goal.returns
returns c = has_bit-set c.args.words.now c.args.number c.requires
