-- The report on profiles that no path is attached to (docs/aatry.md, "`aatry check --rules`").
use Rattle.std.specs.Prelude.{ℕ, if◌then◌else◌, List, [], ◌∷◌, ◌++◌, codes, flat_map, Option, None, Some}
use Rattle.aa_decide_ready.specs.Entries.{Loaded}
use Rattle.aa_decide_ready.specs.Slots.{entry_at}
use Rattle.aa_set_answers.specs.Show.{attachment_line}
use Rattle.aa_text_files.specs.declared.text_error.Place.{Place}
use Rattle.aatry_folder.specs.PolicyFiles.{PolicyFiles}
use Rattle.aatry_policy.specs.Origins.{file_of, places_of}
use Rattle.aatry_policy.specs.declared.origins.Origin.{Origin}
use Rattle.aatry_report.specs.Fields.{MemberTexts, Said, Text, Words, told}
use Rattle.aatry_report.specs.declared.form.Form.{Form}
use Rattle.aatry_report.specs.declared.form.Form.TheVariants.{Lines, Records}
use Rattle.aatry_why_lines.specs.Lines.{where_said}
use Rattle.aatry_check_rules.specs.Unattached.{is_profile_asked, origin_of}

-- where the attachment of a profile is written, by its origin, if that is known
abbrev pub attachment_place : Option Origin → Option Place
attachment_place origin = elim (places_of origin) [ None ↦ None | Some places ↦ places.own.attachment ]

-- that no path is attached to a profile, with where its attachment is written; only a record has its attachments
unfoldable pub name_told : Form → List ℕ → Said → List (List ℕ) → List ℕ
name_told form name place attachments =
    told form (codes "unattached")
    (place ∷ Words (codes "no path is attached to this profile: ") ∷ Text (codes "name") name ∷ MemberTexts (codes "attachments") attachments ∷ [])

-- below its line its attachments, as `show` prints them
abbrev pub attachment_lines : Form → List (List ℕ) → List ℕ
attachment_lines Lines attachments = flat_map attachment_line attachments
attachment_lines Records attachments = []

abbrev pub profile_told : Form → PolicyFiles → Option Origin → Loaded → List ℕ
profile_told form below origin entry =
    name_told form entry.profile.name (where_said below (file_of origin) (attachment_place origin)) entry.profile.attachments
    ++ attachment_lines form entry.profile.attachments

-- of what a slot holds, if it is asked about
abbrev pub unattached_in : Form → PolicyFiles → List Origin → List (List ℕ) → Option Loaded → List ℕ
unattached_in form below origins names None = []
unattached_in form below origins names (Some entry) =
    if is_profile_asked origins names entry then profile_told form below (origin_of origins entry) entry else []

abbrev pub unattached_at : Form → PolicyFiles → List (Option Loaded) → List Origin → List (List ℕ) → ℕ → List ℕ
unattached_at form below slots origins names slot = unattached_in form below origins names (entry_at slots slot)

-- of all
abbrev pub places_text : Form → PolicyFiles → List (Option Loaded) → List Origin → List (List ℕ) → List ℕ → List ℕ
places_text form below slots origins names places = flat_map (unattached_at form below slots origins names) places

-- all of it, or that the paths by which attachments differ are too many
abbrev pub unattached_text : Form → PolicyFiles → List (Option Loaded) → List Origin → List (List ℕ) → Option (List ℕ) → List ℕ
unattached_text form below slots origins names None = told form (codes "too_many_attachments") (Words (codes "too many: attachments") ∷ [])
unattached_text form below slots origins names (Some places) = places_text form below slots origins names places
