use Rattle.std.proofs.Common.{arith}
use Rattle.std.proofs.lemmas.Bool.Decides.{nat_tests}
use Rattle.std.proofs.lemmas.Nat.Bits.{bit_at_above}
use Rattle.aa_profile_data.proofs.cover.has.Goals as goal

pub returns-else-number-lt64 : goal.returns-else-number-lt64
returns-else-number-lt64 c = let none = bit_at_above c.args.set 64 c.args.number c.ranges.set.fits c.if-number-lt64.false in grind (arith, nat_tests)
