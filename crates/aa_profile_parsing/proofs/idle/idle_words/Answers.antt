use Rattle.std.proofs.Common.{arith}
use Rattle.std.proofs.lemmas.Grind.{common_steps}
use Rattle.aa_profile_parsing.proofs.IdleLemmas.{idle-first}
use Rattle.aa_profile_parsing.proofs.idle.idle_words.Goals as goal

pub loop-flags-preserved : goal.loop-flags-preserved
loop-flags-preserved c = grind (arith, common_steps, idle-first)
