-- Definitions for the laws on written rules: files with such a rule, and what is read of them.
use Rattle.std.specs.Prelude.{◌≡◌, ◌≤◌, ℕ, Bool, true, false, not, ◌&&◌, List, [], ◌∷◌, ◌++◌, codes, length, Some}
use Rattle.std.specs.List.{list_all}
use Rattle.aa_bytes.specs.Bytes.{closing_brace, is_blank}
use Rattle.aa_glob.specs.Laws.{quoted}
use Rattle.aa_glob_syntax.specs.Reading.{HasNoFirstFault}
use Rattle.aa_profile_data.specs.declared.profile.Mode.TheVariants.{Enforce}
use Rattle.aa_profile_data.specs.declared.profile.Profile.{Profile}
use Rattle.aa_profile_data.specs.declared.profile.Rule.{Rule}
use Rattle.aa_profile_data.specs.declared.profile.Rule.TheVariants.{Cap, File, Net, Other}
use Rattle.aa_text_files.specs.Files.{File as HandedIn, bytes_of}
use Rattle.aa_text_files.specs.Limit.{most_bytes}
use Rattle.aa_explain_written.specs.Quotes.{between_quotes, needs_escape}

-- A pattern is that of a path alone: the path with a backslash before each byte that needs one. It isn't too long, begins with a slash and has no
-- zero byte.
abbrev pub IsOfPath : List ℕ → List ℕ → Type 0
IsOfPath path pattern = (pattern ≡ quoted path) × HasNoFirstFault (quoted path)

-- a rule is on one path, if it is on files
abbrev pub IsOfOne : Rule → Type 0
IsOfOne (File rule) = (path : List ℕ) × IsOfPath path rule.pattern
IsOfOne (Cap rule) = Unit {0}
IsOfOne (Net rule) = Unit {0}
IsOfOne (Other rule) = Unit {0}

-- a file of one profile that has this in its block
abbrev pub in_profile : List ℕ → List ℕ → List ℕ → List ℕ
in_profile before text after = codes "profile p {" ++ before ++ text ++ after ++ closing_brace ∷ []

-- A file of this name is handed in, not too big, of one profile whose block holds this text between blanks alone.
pub record HasFileOf (files : List HandedIn) (name text : List ℕ) : Type 0 where
  pub before : List ℕ
  pub after : List ℕ
  pub blank_before : list_all is_blank before ≡ true
  pub blank_after : list_all is_blank after ≡ true
  pub bytes : bytes_of files name ≡ Some (in_profile before text after)
  pub fits : length (in_profile before text after) ≤ most_bytes

-- a rule as it is read: its pattern has the backslashes that it needs in quotes
abbrev pub as_read : Rule → Rule
as_read (File rule) = File (record rule { pattern = between_quotes rule.pattern })
as_read (Cap rule) = Cap rule
as_read (Net rule) = Net rule
as_read (Other rule) = Other rule

-- the profile of such a file: one rule
abbrev pub profile_of_one : Rule → Profile
profile_of_one rule = record { name = codes "p"; attachments = []; audit = false; mode = Enforce; rules = rule ∷ []; children = [] }

-- no byte of a path, after another, needs a backslash only in quotes
abbrev pub needs_none_behind : ℕ → List ℕ → Bool
needs_none_behind before [] = true
needs_none_behind before (b ∷ bs) = not (needs_escape before b) && needs_none_behind b bs

abbrev pub needs_no_escape : List ℕ → Bool
needs_no_escape path = needs_none_behind 0 path
