use Rattle.std.proofs.Common.{refl}
use Rattle.aa_text_tokens.proofs.cut.CutFault.number.Goals as goal

pub returns-in-OpenOther : goal.returns-in-OpenOther
returns-in-OpenOther c = rw c.in-OpenOther.is refl
