-- Wrong words, with the known one that may have been meant.
use Rattle.std.specs.Prelude.{◌≡◌, ◌&&◌, List, ℕ, [], ◌∷◌, Bool, codes, is_none, is_some, take, option_map}
use Rattle.aa_profile_data.specs.Capabilities.{names as capability_names}
use Rattle.aa_profile_data.specs.Domains.{names as domain_names}
use Rattle.aa_profile_data.specs.Kinds.{names as kind_names}
use Rattle.aatry_words.specs.Capabilities.{likely_name}
use Rattle.aatry_words.specs.Near.{IsNearest, nearest}
use Rattle.aatry_questions.specs.Faults.{Found, kind_of}
use Rattle.aatry_questions.specs.Meant.{needs_fault}
use Rattle.aatry_questions.specs.declared.faults.Wrong.{Wrong}
use Rattle.aatry_questions.specs.declared.faults.Wrong.TheVariants.{Capability, Domain, Kind, Owned, SocketType}
use Rattle.aatry_questions.specs.declared.misspelled.QuestionFault.{QuestionFault}

-- the words that are known in place of a wrong one: of a capability, a domain or a type the names of its table
abbrev pub known_words : Wrong → List (List ℕ)
known_words Kind = codes "file" ∷ codes "exec" ∷ codes "cap" ∷ codes "net" ∷ []
known_words Owned = codes "owner" ∷ codes "other" ∷ []
known_words Capability = capability_names
known_words Domain = domain_names
known_words SocketType = take 6 kind_names
known_words _ = []

-- the word that is compared with those that are known in its place
abbrev pub likely_word : Wrong → List ℕ → List ℕ
likely_word Capability word = likely_name word
likely_word _ word = word

-- A fault has what was found, and of the known words the one that is nearest to the wrong one, if one is near.
pub record Tells (fault : QuestionFault) (told : Found) : Type 0 where
  pub wrong : fault.wrong ≡ told.wrong
  pub word : fault.word ≡ told.word
  pub near : IsNearest (known_words told.wrong) (likely_word told.wrong told.word) (option_map (λ name. name.now) fault.near)

-- a word is near a kind of questions
abbrev pub is_near_kind : List ℕ → Bool
is_near_kind word = is_some (nearest word (known_words Kind))

-- a word that is no kind of questions may stand for one: it is no access either, and near a kind
abbrev pub misspells_kind : List ℕ → Bool
misspells_kind word = is_none (kind_of word) && is_some (needs_fault word) && is_near_kind word
