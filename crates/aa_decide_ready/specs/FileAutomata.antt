-- The automaton of the rules on files among some, and the indexes of these.
use Rattle.std.specs.Prelude.{◌≡◌, List}
use Rattle.aa_glob.specs.Automata.{IsAutomatonOf}
use Rattle.aa_profile_data.specs.FileRules.{file_patterns, places_from}
use Rattle.aa_profile_data.specs.declared.profile.Rule.{Rule}
use Rattle.aa_decide_ready.specs.declared.part.FileRules.{FileRules}

-- this was made of the file rules among some rules
pub record AreFileRulesOf (made : FileRules) (rules : List Rule) : Type 0 where
  pub automaton : IsAutomatonOf made.automaton (file_patterns rules)
  pub places : made.places ≡ places_from 0 rules
