use Rattle.std.proofs.lemmas.Result.{IfOk-weaker}
use Rattle.aa_profile.specs.FileReading.{file_profiles_in}
use Rattle.aa_profile.proofs.NameLemmas.{ProfilesFit, profiles-fit}
use Rattle.aa_profile.proofs.ReadingLemmas.{file-fits}
use Rattle.aa_profile.proofs.laws.how_profiles_are_named.Goals as goal

pub returns-clause-no_two_profiles_have_one_name : goal.returns-clause-no_two_profiles_have_one_name
returns-clause-no_two_profiles_have_one_name c language files name = IfOk-weaker (file_profiles_in language files name) _ _ (λ profiles fit. fit.distinct) (file-fits language ProfilesFit (λ variables tokens written is fine. profiles-fit language variables tokens written is) files name)

pub returns-clause-each_name_is_as_the_grammar_says : goal.returns-clause-each_name_is_as_the_grammar_says
returns-clause-each_name_is_as_the_grammar_says c language files name = IfOk-weaker (file_profiles_in language files name) _ _ (λ profiles fit. fit.named) (file-fits language ProfilesFit (λ variables tokens written is fine. profiles-fit language variables tokens written is) files name)

pub returns-clause-no_two_children_have_one_name : goal.returns-clause-no_two_children_have_one_name
returns-clause-no_two_children_have_one_name c language files name = IfOk-weaker (file_profiles_in language files name) _ _ (λ profiles fit. fit.children) (file-fits language ProfilesFit (λ variables tokens written is fine. profiles-fit language variables tokens written is) files name)
