-- The report on a file of policy that was taken.
use Rattle.std.specs.Prelude.{ℕ, Bool, true, false, List, [], ◌∷◌, ◌++◌, ◌+◌, ◌-◌, ◌^◌, ◌==◌, codes, count_by, flat_map, if◌then◌else◌, map, min}
use Rattle.std.specs.Fmt.{decimal}
use Rattle.serde_json.specs.Data.{Members}
use Rattle.aa_bytes.specs.Bytes.{line_feed}
use Rattle.aa_profile_data.specs.declared.profile.Child.{Child}
use Rattle.aa_profile_data.specs.declared.profile.Mode.{Mode}
use Rattle.aa_profile_data.specs.declared.profile.Mode.TheVariants.{Complain, Enforce, Unconfined}
use Rattle.aa_profile_data.specs.declared.profile.Profile.{Profile}
use Rattle.aa_profile_data.specs.declared.profile.Rule.{Rule}
use Rattle.aa_profile_data.specs.declared.profile.Rule.TheVariants.{Other}
use Rattle.aatry_report.specs.Records.{record_line, record_of, with_number, with_text, with_texts}
use Rattle.aatry_report.specs.Shown.{shown}
use Rattle.aatry_report.specs.declared.form.Form.{Form}
use Rattle.aatry_report.specs.declared.form.Form.TheVariants.{Lines, Records}

-- a rule that is kept as it is written, and decides nothing here
abbrev pub is_kept : Rule → Bool
is_kept (Other _) = true
is_kept _ = false

-- how many of these rules decide nothing here
abbrev pub kept_in : List Rule → ℕ
kept_in rules = count_by is_kept rules

abbrev pub kept_in_children : List Child → ℕ
kept_in_children [] = 0
kept_in_children (child ∷ children) = kept_in child.rules + kept_in_children children

-- how many rules of these profiles, of their children and hats, decide nothing here
abbrev pub kept_rules : List Profile → ℕ
kept_rules [] = 0
kept_rules (profile ∷ profiles) = (kept_in profile.rules + kept_in_children profile.children) + kept_rules profiles

-- in this mode no rule decides
abbrev pub is_unconfined : Mode → Bool
is_unconfined Enforce = false
is_unconfined Complain = false
is_unconfined Unconfined = true

-- how many of these profiles confine nothing
abbrev pub unconfined_in : List Profile → ℕ
unconfined_in profiles = count_by (λ profile. is_unconfined profile.mode) profiles

-- a number, up to the greatest that is counted
abbrev pub counted : ℕ → ℕ
counted n = min n (2 ^ 64 - 1)

-- the names of profiles
abbrev pub profile_names : List Profile → List (List ℕ)
profile_names profiles = map (λ profile. profile.name) profiles

-- the names of profiles as a text, each after a blank
abbrev pub names_text : List Profile → List ℕ
names_text profiles = flat_map (λ profile. codes " " ++ shown profile.name) profiles

-- how many of something there are, in these words
abbrev pub count_words : ℕ → List ℕ → List ℕ
count_words n words = codes "; " ++ decimal n ++ words

-- how many of something there are, in these words; nothing for 0
abbrev pub count_text : ℕ → List ℕ → List ℕ
count_text n words = if n == 0 then [] else count_words n words

-- how many profiles confine nothing, if any, in words
abbrev pub unconfined_text : ℕ → List ℕ
unconfined_text n = count_text n (codes " of its profiles confine nothing")

-- how many rules decide nothing here, if any, in words
abbrev pub kept_text : ℕ → List ℕ
kept_text n = count_text n (codes " of its rules decide nothing here")

-- a record with how many profiles confine nothing, if any
abbrev pub with_unconfined : ℕ → Members → Members
with_unconfined n members = if n == 0 then members else with_number (codes "unconfined") n members

-- a record of a file that was taken, by its path: with the names of its profiles, how many of them confine nothing, if any, and how many of their
-- rules decide nothing here
abbrev pub taken_record : List ℕ → List Profile → Members
taken_record path profiles =
    with_number (codes "ignored") (counted (kept_rules profiles)) (with_unconfined (unconfined_in profiles)
    (with_texts (codes "profiles") (profile_names profiles) (with_text (codes "file") path (record_of (codes "taken")))))

-- the report on a file that was taken: `PATH: taken: NAME..`, how many of these profiles confine nothing, and how many rules decide nothing here, or
-- its record
abbrev pub taken_line : Form → List ℕ → List Profile → List ℕ
taken_line Lines path profiles = shown path ++ codes ": taken:" ++ names_text profiles ++ unconfined_text (unconfined_in profiles) ++ kept_text (counted (kept_rules profiles)) ++ line_feed ∷ []
taken_line Records path profiles = record_line (taken_record path profiles)
