use Rattle.std.proofs.Common.{◌∙◌, refl}
use Rattle.aatry_folder.specs.PassedOver.{is_leftover}
use Rattle.aatry_folder.proofs.passed_over.is_leftover.Goals as goal

-- The endings of the code are those of the definition.
pub returns : goal.returns
unfolding is_leftover
returns c = c.has_ending.ensures ∙ refl
