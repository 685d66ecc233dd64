use Rattle.aa_bytes.proofs.BitLemmas.{has_bit-cleared}
use Rattle.aa_bytes.proofs.bits.clear_bit.Goals as goal

pub returns : goal.returns
returns c = has_bit-cleared c.args.words.now c.args.number c.requires
