use Rattle.std.proofs.Common.{refl}
use Rattle.aa_profile_data.proofs.profile.FileRule.try_copy.Goals as goal

pub returns : goal.returns
returns c = rw (c.in_ok-try_copy.ensures, c.in_ok-copied_transition.ensures, c.in_ok-share_option.ensures) refl
