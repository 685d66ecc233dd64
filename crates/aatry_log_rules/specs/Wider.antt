-- Wider rules than the printed ones, as they are offered beside them.
use Rattle.std.specs.Prelude.{ℕ, Bool, if◌then◌else◌, List, [], ◌∷◌, ◌++◌, codes, Option, None, Some}
use Rattle.std.specs.List.{list_any}
use Rattle.std.specs.Str.{bytes_eq}
use Rattle.aa_bytes.specs.Bytes.{line_feed}
use Rattle.aa_profile_data.specs.Request.{ForCapability, ForFile, ForSockets, Request}
use Rattle.aa_profile_data.specs.declared.profile.Rule.{Rule}
use Rattle.aa_profile_data.specs.declared.profile.Rule.TheVariants.{Cap, File, Net, Other}
use Rattle.aatry_log_globs.specs.Rules.{wider_rule}
use Rattle.aatry_log_rules.specs.declared.finding.Finding.{Finding}
use Rattle.aatry_log_rules.specs.declared.finding.Finding.TheVariants as finding
use Rattle.aatry_report.specs.declared.form.Form.{Form}
use Rattle.aatry_report.specs.declared.form.Form.TheVariants.{Lines, Records}

-- the wider rule than one on a path, if it is on files and something of the path is widened
abbrev pub wider_on : List ℕ → Rule → Option (List ℕ)
wider_on path (File rule) = wider_rule rule path
wider_on path (Cap rule) = None
wider_on path (Net rule) = None
wider_on path (Other rule) = None

-- the wider rule than one that a request lacks
abbrev pub wider_than : Request → Rule → Option (List ℕ)
wider_than (ForFile needs owned path) rule = wider_on path rule
wider_than (ForCapability number) rule = None
wider_than (ForSockets domain kind) rule = None

-- the wider rule than what is found for a request, where wider rules are asked for
abbrev pub wider_for : Bool → Request → Finding → Option (List ℕ)
wider_for globs request (finding.Missing rule) = if globs then wider_than request rule else None
wider_for globs request (finding.None reason) = None

-- a text is among some
abbrev pub has_text : List ℕ → List (List ℕ) → Bool
has_text text texts = list_any (bytes_eq text) texts

-- the texts of wider rules that are printed, with this one
abbrev pub with_told : List ℕ → List (List ℕ) → List (List ℕ)
with_told text told = if has_text text told then told else told ++ text ∷ []

abbrev pub told_with : Option (List ℕ) → List (List ℕ) → List (List ℕ)
told_with None told = told
told_with (Some text) told = with_told text told

-- a wider rule on a line of its own, as a comment
abbrev pub wider_line : List ℕ → List ℕ
wider_line text = codes "  # wider: " ++ text ++ line_feed ∷ []

-- a wider rule on a line of its own unless it is printed already; records have it in that of its rule
abbrev pub wider_once : Form → Bool → List ℕ → List ℕ
wider_once Lines told text = if told then [] else wider_line text
wider_once Records told text = []

-- a wider rule, if there is one, by those that are printed already
abbrev pub wider_text : Form → List (List ℕ) → Option (List ℕ) → List ℕ
wider_text form told None = []
wider_text form told (Some text) = wider_once form (has_text text told) text
