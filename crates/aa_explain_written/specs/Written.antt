-- Rules as a profile's file writes them (docs/policy.md, "Rules").
use Rattle.std.specs.Prelude.{ℕ, ◌+◌, ◌^◌, Bool, true, not, ◌==◌, ◌&&◌, ◌||◌, if◌then◌else◌, List, [], ◌∷◌, ◌++◌, codes, Option, None, Some, is_none, is_some, nat_lt, option_and_then}
use Rattle.std.specs.Option.{option_map}
use Rattle.aa_bytes.specs.Bytes.{comma, quote, space}
use Rattle.aa_glob_syntax.specs.Exactness.{is_exact}
use Rattle.aa_glob_syntax.specs.Reading.{items_of}
use Rattle.aa_profile_data.specs.Access.{APPEND, WRITE, asked_letters, has, letters_of}
use Rattle.aa_profile_data.specs.ExecWords.{row, same_word}
use Rattle.aa_profile_data.specs.declared.exec_word.ExecWord.TheVariants.{Inherit}
use Rattle.aa_profile_data.specs.Ranks.{same_rank}
use Rattle.aa_profile_data.specs.declared.profile.CapRule.{CapRule}
use Rattle.aa_profile_data.specs.declared.profile.FileRule.{FileRule}
use Rattle.aa_profile_data.specs.declared.profile.NetRule.{NetRule}
use Rattle.aa_profile_data.specs.declared.profile.Rank.{Rank}
use Rattle.aa_profile_data.specs.declared.profile.Rank.TheVariants.{Loose, Plain}
use Rattle.aa_profile_data.specs.declared.profile.Rule.{Rule}
use Rattle.aa_profile_data.specs.declared.profile.Rule.TheVariants.{Cap, File, Net, Other}
use Rattle.aa_profile_data.specs.declared.profile.Transition.{Transition}
use Rattle.aa_profile_data.specs.Capabilities.{names}
use Rattle.aa_profile_data.specs.Domains.{domain_name}
use Rattle.aa_profile_data.specs.Kinds.{is_protocol, kind_name}
use Rattle.aa_explain_written.specs.Quotes.{between_quotes, fits_quotes}

-- an exec word, where a rule has one
abbrev pub word_text : Option Transition → List ℕ
word_text None = []
word_text (Some transition) = (row transition.word).text

-- the access of a rule on files: its letters, followed by its exec word
abbrev pub access_text : FileRule → List ℕ
access_text rule = letters_of rule.access.0 ++ word_text rule.exec

-- the qualifier of a rule that is about the owner's files alone
abbrev pub owner_text : Bool → List ℕ
owner_text owner = if owner then codes "owner " else []

-- a rule on files: its pattern in quotes, and its access
abbrev pub file_text : FileRule → List ℕ
file_text rule = owner_text rule.owner ++ codes "file " ++ quote ∷ between_quotes rule.pattern ++ quote ∷ space ∷ access_text rule ++ comma ∷ []

-- a program runs under the profile that starts it, where a rule has an exec word
abbrev pub is_inherited : Option Transition → Bool
is_inherited None = true
is_inherited (Some transition) = same_word transition.word Inherit && is_none transition.target

-- a rule allows something by letters that requests need, where `w` and `a` aren't written together, or by an exec word
abbrev pub has_access : FileRule → Bool
has_access rule =
    nat_lt rule.access.0 asked_letters && not (has rule.access.0 WRITE && has rule.access.0 APPEND) && not (rule.access.0 == 0 && is_none rule.exec)

-- the rule says what it allows by its letters and by `ix` alone
abbrev pub has_no_more : FileRule → Bool
has_no_more rule = not (rule.deny || rule.audit) && is_none rule.link && is_inherited rule.exec

-- the rank of a rule on one path
abbrev pub rank_of_one : FileRule → Rank
rank_of_one rule = if is_some rule.exec then Plain else Loose

-- a rule allows something of one path alone
abbrev pub lets_of_one : FileRule → Bool
lets_of_one rule = has_no_more rule && has_access rule && same_rank rule.rank (rank_of_one rule) && is_exact (items_of rule.pattern)

-- a rule on files is written that does so, if its pattern can be written in quotes
abbrev pub is_file_written : FileRule → Bool
is_file_written rule = lets_of_one rule && fits_quotes (between_quotes rule.pattern)

abbrev pub written_file : FileRule → Option (List ℕ)
written_file rule = if is_file_written rule then Some (file_text rule) else None

-- the name of the one capability that a set has, among names of which the first has this number
abbrev pub name_of_one : ℕ → ℕ → List (List ℕ) → Option (List ℕ)
name_of_one set number [] = None
name_of_one set number (name ∷ names) = if set == 2 ^ number then Some name else name_of_one set (number + 1) names

-- a rule on capabilities is written that allows one
abbrev pub written_capability : CapRule → Option (List ℕ)
written_capability rule =
    if rule.deny || rule.audit then None else
    option_map (λ name. codes "capability " ++ name ++ comma ∷ []) (name_of_one rule.caps 0 names)

-- the name of a socket type, where it is one
abbrev pub type_name : ℕ → Option (List ℕ)
type_name kind = if is_protocol kind then None else kind_name kind

-- a rule on sockets is written that allows those of one type in one domain
abbrev pub written_network : NetRule → Option (List ℕ)
written_network rule =
    if rule.deny || rule.audit then None else
    option_and_then (λ domain. option_map (λ kind. codes "network " ++ domain ++ space ∷ kind ++ comma ∷ []) (option_and_then type_name rule.kind))
    (option_and_then domain_name rule.domain)

-- a rule as a profile's file writes it, if it is one of those above
abbrev pub written_rule : Rule → Option (List ℕ)
written_rule (File rule) = written_file rule
written_rule (Cap rule) = written_capability rule
written_rule (Net rule) = written_network rule
written_rule (Other rule) = None
