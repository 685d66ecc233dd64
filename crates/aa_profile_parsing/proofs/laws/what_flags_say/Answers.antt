use Rattle.aa_profile_parsing.proofs.FlagListLemmas.{order-is-free, words-apart}
use Rattle.aa_profile_parsing.proofs.FlagTextLemmas.{read-as-said, spelled-both-ways}
use Rattle.aa_profile_parsing.proofs.laws.what_flags_say.Goals as goal

pub returns-clause-flags_are_read_as_their_text : goal.returns-clause-flags_are_read_as_their_text
returns-clause-flags_are_read_as_their_text c = read-as-said

pub returns-clause-keyword_changes_nothing : goal.returns-clause-keyword_changes_nothing
returns-clause-keyword_changes_nothing c = spelled-both-ways

pub returns-clause-any_separators_stand_between_words : goal.returns-clause-any_separators_stand_between_words
returns-clause-any_separators_stand_between_words c = words-apart

pub returns-clause-same_words_say_the_same : goal.returns-clause-same_words_say_the_same
returns-clause-same_words_say_the_same c = order-is-free
