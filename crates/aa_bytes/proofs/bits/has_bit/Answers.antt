use Rattle.std.proofs.Common.{◌%◌, arith}
use Rattle.aa_bytes.proofs.BitLemmas.{bit_is_set}
use Rattle.aa_bytes.proofs.bits.has_bit.Goals as goal

pub returns : goal.returns
returns c = bit_is_set 64 _ (c.args.number % 64) (omega arith)
