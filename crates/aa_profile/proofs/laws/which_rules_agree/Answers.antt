use Rattle.aa_profile.proofs.ReadingLemmas.{AllAgree, file-fits, read-agree}
use Rattle.aa_profile.proofs.laws.which_rules_agree.Goals as goal

pub returns : goal.returns
returns c language files name = file-fits language AllAgree (read-agree language) files name
