-- Where the rules and the attachments of a file's profiles are written: each at the token of which it is made. Neither has its place in itself, so
-- that two profiles of equal rules are equal wherever they are written. With these places are the flags that decide nothing, which no profile holds.
use Rattle.std.specs.Prelude.{ℕ, List, [], ◌∷◌, length, Option, None, Some}
use Rattle.std.specs.List.{flat_map}
use Rattle.std.specs.Option.{option_map}
use Rattle.std.proofs.Math.ListN.{replicate}
use Rattle.aa_text_files.specs.declared.text_error.Place.{Place}
use Rattle.aa_text_tokens.specs.Splicing.{Placed}
use Rattle.aa_text_variables.specs.Expansions.{expansions}
use Rattle.aa_text_variables.specs.Variables.{Variable}
use Rattle.aa_profile_parsing.specs.IdleFlags.{idle_flags}
use Rattle.aa_profile_parsing.specs.Tokens.{place_of, text_of}
use Rattle.aa_profile_parsing.specs.declared.language.Language.{Language}
use Rattle.aa_profile_rules.specs.Rules.{All, Kept, OnCapabilities, OnFile, OnNetwork, Rule}
use Rattle.aa_profile_grammar.specs.Blocks.{OfChild, OfRule, Child, Member, Profile}
use Rattle.aa_profile_grammar.specs.Heads.{Head}
use Rattle.aa_profile_grammar.specs.declared.places.ProfilePlaces.{ProfilePlaces}
use Rattle.aa_profile_grammar.specs.declared.places.SectionPlaces.{SectionPlaces}

-- the place of the first of some tokens
abbrev pub first_place : List Placed → Option Place
first_place [] = None
first_place (token ∷ tokens) = Some (place_of token)

-- Where a rule is written: a file rule at its pattern, or at the word `file` alone, and any other rule at its word.
abbrev pub place_of_rule : Rule → Option Place
place_of_rule (OnFile qualifiers pattern access target) = Some (place_of pattern)
place_of_rule (OnCapabilities qualifiers word capabilities) = Some (place_of word)
place_of_rule (OnNetwork qualifiers word sockets) = Some (place_of word)
place_of_rule (Kept qualifiers tokens) = first_place tokens
place_of_rule (All qualifiers word) = Some (place_of word)

-- where the attachment of a head is written, if it has one
abbrev pub place_of_attachment : Head → Option Place
place_of_attachment head = option_map place_of head.attachment

-- how many rules a written one makes: a file rule one for each expansion of its pattern, the rule `all` five, and any other one
abbrev pub rule_count : List Variable → Rule → ℕ
rule_count variables (OnFile qualifiers pattern access target) = length (expansions variables (text_of pattern))
rule_count variables (OnCapabilities qualifiers word capabilities) = 1
rule_count variables (OnNetwork qualifiers word sockets) = 1
rule_count variables (Kept qualifiers tokens) = 1
rule_count variables (All qualifiers word) = 5

-- the places of the rules that a written one makes: each is where that one is written
abbrev pub places_of_rule : List Variable → Rule → List (Option Place)
places_of_rule variables rule = replicate (rule_count variables rule) (place_of_rule rule)

abbrev pub places_of_rules : List Variable → List Rule → List (Option Place)
places_of_rules variables rules = flat_map (places_of_rule variables) rules

-- the places of a block, by its head and the places of its rules, with its flags that decide nothing
abbrev pub section_places : Language → Head → List (Option Place) → SectionPlaces
section_places language head rules = record { attachment = place_of_attachment head; rules = rules; flags = idle_flags language head.flag_tokens }

-- the places of a child or a hat
abbrev pub child_places : Language → List Variable → Child → SectionPlaces
child_places language variables child = section_places language child.head (places_of_rules variables child.rules)

-- the places of the rules that a member of a block makes: those of a child or a hat aren't its profile's
abbrev pub places_of_member : List Variable → Member → List (Option Place)
places_of_member variables (OfRule rule) = places_of_rule variables rule
places_of_member variables (OfChild child) = []

abbrev pub places_of_members : List Variable → List Member → List (Option Place)
places_of_members variables members = flat_map (places_of_member variables) members

-- the places of the child or hat that a member of a block is, if it is one
abbrev pub places_in_member : Language → List Variable → Member → List SectionPlaces
places_in_member language variables (OfRule rule) = []
places_in_member language variables (OfChild child) = child_places language variables child ∷ []

-- the places of each child and hat among members
abbrev pub places_in_members : Language → List Variable → List Member → List SectionPlaces
places_in_members language variables members = flat_map (places_in_member language variables) members

-- the places of a profile, and of its children and hats
abbrev pub places_of_profile : Language → List Variable → Profile → ProfilePlaces
places_of_profile language variables profile = record {
  own = section_places language profile.head (places_of_members variables profile.members);
  children = places_in_members language variables profile.members;
}
