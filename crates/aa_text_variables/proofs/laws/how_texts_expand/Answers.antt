use Rattle.aa_text_expansion.specs.Parts.{parts}
use Rattle.aa_text_variables.specs.Expansions.{values}
use Rattle.aa_text_variables.proofs.ExpansionLaws.{choices-agree, choices-count, choices-plain, values-of_variable}
use Rattle.aa_text_variables.proofs.SomeExpansionLaws.{some-expansion}
use Rattle.aa_text_variables.proofs.laws.how_texts_expand.Goals as goal

pub returns-clause-text_without_names_is_its_expansion : goal.returns-clause-text_without_names_is_its_expansion
returns-clause-text_without_names_is_its_expansion c = λ variables text h. choices-plain (values variables) text h

pub returns-clause-as_many_as_the_product_of_the_values : goal.returns-clause-as_many_as_the_product_of_the_values
returns-clause-as_many_as_the_product_of_the_values c = λ variables text. choices-count (values variables) (parts text)

pub returns-clause-values_are_expansions_of_words : goal.returns-clause-values_are_expansions_of_words
returns-clause-values_are_expansions_of_words c = λ variables name variable h k. values-of_variable variables name variable h k

pub returns-clause-named_values_alone_decide : goal.returns-clause-named_values_alone_decide
returns-clause-named_values_alone_decide c = λ variables others text h. choices-agree (values variables) (values others) (parts text) h

pub returns-clause-text_expands_unless_refused : goal.returns-clause-text_expands_unless_refused
returns-clause-text_expands_unless_refused c = λ variables text h k. some-expansion variables text h k
