-- What is told of profiles, children and hats of which something is answered otherwise (docs/aatry.md, "`aatry diff --all`").
use Rattle.std.specs.Prelude.{ℕ, Bool, false, true, ◌==◌, if◌then◌else◌, List, [], ◌∷◌, ◌++◌, codes, flat_map, map, slice_get, Option, None, Some}
use Rattle.aa_decide_ready.specs.Entries.{Loaded}
use Rattle.aa_decide_rules.specs.Answer.{answer_word}
use Rattle.aa_decide_rules.specs.declared.verdict.Tag.{Tag}
use Rattle.aa_decide_rules.specs.declared.verdict.Verdict.{Verdict}
use Rattle.aa_explain_changes.specs.Changes.{change_between}
use Rattle.aa_explain_changes.specs.FileChanges.{RuleChange, seen_rule_change}
use Rattle.aa_explain_changes.specs.Rules.{FileChange}
use Rattle.aa_explain_changes.specs.declared.asking.FileChanges.{FileChanges}
use Rattle.aa_explain_changes.specs.declared.change.Answers.{Answers}
use Rattle.aa_explain_changes.specs.declared.change.Change.{Change}
use Rattle.aa_explain_changes.specs.declared.change.Change.TheVariants.{Gained, Lost, Otherwise, Same}
use Rattle.aa_explain_diff.specs.Features.{OfRule, same_state}
use Rattle.aa_explain_reach.specs.Places.{leads_somewhere}
use Rattle.aa_explain_start_changes.specs.Starters.{Starters}
use Rattle.aa_explain_start_changes.specs.declared.changes.StartChange.{StartChange}
use Rattle.aa_explain_start_changes.specs.declared.starter.Led.{Led}
use Rattle.aa_profile_data.specs.Access.{common, letters_of}
use Rattle.aa_profile_data.specs.declared.profile.Mode.{Mode}
use Rattle.aa_profile_data.specs.declared.profile.Rule.{Rule}
use Rattle.aa_profile_data.specs.Capabilities.{capability_name}
use Rattle.aa_profile_data.specs.Domains.{domain_name}
use Rattle.aa_profile_data.specs.Kinds.{kind_name}
use Rattle.aatry_changes.specs.Changes.{gone_text, headed}
use Rattle.aatry_claims.specs.Sentences.{absent_told, owner_note, owner_word}
use Rattle.aatry_policy.specs.FolderParts.{FolderParts}
use Rattle.aatry_policy.specs.Parts.{Part}
use Rattle.aatry_reach.specs.Telling.{place_text}
use Rattle.aatry_report.specs.Fields.{Member, MemberWord, Plain, Text, Word, Words, told}
use Rattle.aatry_report.specs.declared.form.Form.{Form}
use Rattle.aatry_report.specs.declared.form.Form.TheVariants.{Lines, Records}
use Rattle.aatry_shared.specs.Differing.{told_lines}
use Rattle.aatry_shared.specs.PartFeatures.{state_text}
use Rattle.aatry_shared.specs.declared.side.Side.{Side}
use Rattle.aatry_shared.specs.declared.side.Side.TheVariants.{New, Old}
use Rattle.aatry_uncertain.specs.LeftOutHeads.{LeftOutHead}
use Rattle.aatry_path_changes.specs.Finding.{Both, Finding, Found, OfAbsent, OfBoth, OfGone, OfNew}
use Rattle.aatry_path_changes.specs.Kinds.{is_same, kind_of_both}
use Rattle.aatry_path_changes.specs.declared.kinds.Kind.{Kind}
use Rattle.aatry_path_changes.specs.declared.kinds.Kind.TheVariants as kind
use Rattle.aatry_path_changes.specs.declared.others.Other.{Other}
use Rattle.aatry_path_changes.specs.declared.others.Other.TheVariants.{Capability, Sockets}
use Rattle.aatry_path_changes.specs.declared.others.OtherChange.{OtherChange}

-- how an answer is logged: not, or by a line, and with which letters of a file
abbrev pub mask_text : ℕ → List ℕ
mask_text mask = if common mask 127 == 0 then codes ", logged" else codes ", logged " ++ letters_of mask

abbrev pub log_text : Option Tag → ℕ → List ℕ
log_text None mask = codes ", not logged"
log_text (Some tag) mask = mask_text mask

-- an answer in a word, and how it is logged, where that is to be told
abbrev pub answer_text : Bool → Verdict → List ℕ
answer_text logs verdict = answer_word verdict.answer ++ (if logs then log_text verdict.tag verdict.mask.0 else [])

-- how answers are logged is to be told where neither is to allow, or both are
abbrev pub is_otherwise : Change → Bool
is_otherwise Otherwise = true
is_otherwise Same = false
is_otherwise Gained = false
is_otherwise Lost = false

abbrev pub tells_logs : Answers → Bool
tells_logs answers = is_otherwise (change_between false answers.old answers.new)

-- a path on which answers change that a rule takes part in, by its letters, whose file it is, and the answers
unfoldable pub path_by : Form → (name letters path note owned before after : List ℕ) → List ℕ
path_by form name letters path note owned before after =
    told form (codes "path")
    (Member (codes "name") name ∷ Words (codes "      ") ∷ Plain (codes "letters") letters ∷ Words (codes " of ")
    ∷ Text (codes "path") path ∷ Words note ∷ MemberWord (codes "owned") owned ∷ Words (codes ": ") ∷ Plain (codes "before") before
    ∷ Words (codes " -> ") ∷ Plain (codes "after") after ∷ [])

abbrev pub path_told : Form → List ℕ → FileChange → List ℕ
path_told form name change =
    let logs = tells_logs change.answers in
    path_by form name (letters_of change.letters) change.path (owner_note change.owned) (owner_word change.owned)
    (answer_text logs change.answers.old) (answer_text logs change.answers.new)

-- what is told below a rule: there may be none
abbrev pub change_told : Form → List ℕ → Option FileChange → List ℕ
change_told form name None = told form (codes "nothing") (Member (codes "name") name ∷ Words (codes "      changes nothing") ∷ [])
change_told form name (Some change) = path_told form name change

-- the rule of a number, as `diff` tells it, where there is one
abbrev pub rule_line : Form → FolderParts → Part → Side → ℕ → Option Rule → List ℕ
rule_line form folder part side number None = []
rule_line form folder part side number (Some rule) = told_lines form folder part (codes "  ") side (OfRule rule number ∷ [])

-- a rule that one side alone has, and what it changes
abbrev pub rule_text : Form → FolderParts → Part → Side → RuleChange → List ℕ
rule_text form folder part side change =
    rule_line form folder part side change.lone.number (slice_get part.section.rules change.lone.number) ++ change_told form part.name change.told

-- the same of some
abbrev pub rules_text : Form → FolderParts → Part → Side → List RuleChange → List ℕ
rules_text form folder part side changes = flat_map (rule_text form folder part side) changes

-- what changes of files: the rules that the old side alone has, and then those of the new one
abbrev pub files_text : Form → FolderParts → FolderParts → Part → Part → Option FileChanges → List ℕ
files_text form old new part other None = []
files_text form old new part other (Some files) =
    rules_text form old part Old (map seen_rule_change files.old.items) ++ rules_text form new other New (map seen_rule_change files.new.items)

-- a name, if there is one
abbrev pub name_or : Option (List ℕ) → List ℕ
name_or None = []
name_or (Some name) = name

-- a capability, and sockets, by the answers
unfoldable pub capability_by : Form → (name capability before after : List ℕ) → List ℕ
capability_by form name capability before after =
    told form (codes "capability")
    (Member (codes "name") name ∷ Words (codes "  capability ") ∷ Word (codes "capability") capability ∷ Words (codes ": ")
    ∷ Plain (codes "before") before ∷ Words (codes " -> ") ∷ Plain (codes "after") after ∷ [])

unfoldable pub sockets_by : Form → (name domain kind before after : List ℕ) → List ℕ
sockets_by form name domain kind before after =
    told form (codes "sockets")
    (Member (codes "name") name ∷ Words (codes "  sockets ") ∷ Word (codes "domain") domain ∷ Words (codes " ") ∷ Word (codes "type") kind
    ∷ Words (codes ": ") ∷ Plain (codes "before") before ∷ Words (codes " -> ") ∷ Plain (codes "after") after ∷ [])

-- what is answered otherwise that is no file
abbrev pub other_by : Form → List ℕ → Other → (before after : List ℕ) → List ℕ
other_by form name (Capability number) before after = capability_by form name (name_or (capability_name number)) before after
other_by form name (Sockets domain kind) before after = sockets_by form name (name_or (domain_name domain)) (name_or (kind_name kind)) before after

abbrev pub other_told : Form → List ℕ → OtherChange → List ℕ
other_told form name change =
    let logs = tells_logs change.answers in
    other_by form name change.other (answer_text logs change.answers.old) (answer_text logs change.answers.new)

abbrev pub others_told : Form → List ℕ → List OtherChange → List ℕ
others_told form name changes = flat_map (other_told form name) changes

-- the modes, where they differ
abbrev pub mode_told : Form → List ℕ → Option Mode → Option Mode → List ℕ
mode_told form name old new =
    if same_state old new then []
    else told form (codes "mode")
    (Member (codes "name") name ∷ Words (codes "  mode: ") ∷ Word (codes "before") (state_text old) ∷ Words (codes " -> ")
    ∷ Word (codes "after") (state_text new) ∷ [])

-- What the start of a program leads to, in words: under what the program runs, and that its environment is scrubbed, where
-- it is; or that it leads nowhere.
abbrev pub led_text : List (Option Loaded) → Led → List ℕ
led_text slots led =
    if leads_somewhere led.to then place_text slots led.to ++ (if led.scrub then codes " scrub" else []) else codes "nowhere"

-- a start that leads elsewhere, by its path, whose file that is, and where it leads before and after the change
unfoldable pub start_by : Form → (name path note owned before after : List ℕ) → List ℕ
start_by form name path note owned before after =
    told form (codes "start")
    (Member (codes "name") name ∷ Words (codes "  start of ") ∷ Text (codes "path") path ∷ Words note ∷ MemberWord (codes "owned") owned
    ∷ Words (codes ": ") ∷ Text (codes "before") before ∷ Words (codes " -> ") ∷ Text (codes "after") after ∷ [])

abbrev pub start_told : Form → List ℕ → Starters → StartChange → List ℕ
start_told form name starters start =
    start_by form name start.path.items (owner_note start.owned) (owner_word start.owned) (led_text starters.old.slots start.old)
    (led_text starters.new.slots start.new)

abbrev pub starts_told : Form → List ℕ → Starters → Option (List StartChange) → List ℕ
starts_told form name starters None = []
starts_told form name starters (Some starts) = flat_map (start_told form name starters) starts

-- what is told below the line of parts that both folders have
unfoldable pub below_text : Form → FolderParts → FolderParts → Both → List ℕ
below_text form old new both =
    mode_told form both.part.name both.part.section.mode both.other.section.mode
    ++ files_text form old new both.part both.other both.files
    ++ others_told form both.part.name both.others
    ++ starts_told form both.part.name both.starters both.starts

-- the word of what is found; in records it is a kind
abbrev pub many_word : Form → List ℕ
many_word Lines = codes "too many"
many_word Records = codes "too_many"

abbrev pub kind_word : Form → Kind → List ℕ
kind_word form kind.Same = codes "same"
kind_word form kind.Wider = codes "wider"
kind_word form kind.Narrower = codes "narrower"
kind_word form kind.Both = codes "both"
kind_word form kind.Otherwise = codes "otherwise"
kind_word form kind.Gone = codes "gone"
kind_word form kind.New = codes "new"
kind_word form kind.TooMany = many_word form
kind_word form kind.Absent = codes "absent"

-- what is told of parts that both folders have: nothing, where nothing is answered otherwise
abbrev pub both_by : Form → (stat : Bool) → FolderParts → FolderParts → Both → Kind → List ℕ
both_by form stat old new both word =
    if is_same word then [] else headed form (kind_word form word) both.part.name ++ (if stat then [] else below_text form old new both)

abbrev pub both_text : Form → (stat : Bool) → FolderParts → FolderParts → Both → List ℕ
both_text form stat old new both = both_by form stat old new both (kind_of_both both)

-- what is told of a name
abbrev pub finding_text : Form → (stat : Bool) → List LeftOutHead → FolderParts → FolderParts → List ℕ → Finding → List ℕ
finding_text form stat heads old new name OfAbsent = absent_told form name
finding_text form stat heads old new name (OfGone part) = gone_text form heads part
finding_text form stat heads old new name (OfNew part) = headed form (codes "new") part.name
finding_text form stat heads old new name (OfBoth both) = both_text form stat old new both

abbrev pub found_text : Form → (stat : Bool) → List LeftOutHead → FolderParts → FolderParts → Found → List ℕ
found_text form stat heads old new found = finding_text form stat heads old new found.name found.finding

-- the same of all
abbrev pub all_text : Form → (stat : Bool) → List LeftOutHead → FolderParts → FolderParts → List Found → List ℕ
all_text form stat heads old new found = flat_map (found_text form stat heads old new) found
