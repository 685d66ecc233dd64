-- What is told of the places that are reached by the starts of somebody (docs/aatry.md, "`aatry reach`").
use Rattle.std.specs.Prelude.{ℕ, List, [], ◌∷◌, ◌++◌, codes, flat_map, length, slice_get, Option, None, Some}
use Rattle.aa_decide.specs.Exec.{Null, Nowhere, Stacked, Started, Unconfined, Under}
use Rattle.aa_decide.specs.SeenExec.{seen_to}
use Rattle.aa_decide_rules.specs.declared.exec_verdict.ExecTo.{ExecTo}
use Rattle.aa_decide_ready.specs.Entries.{Loaded}
use Rattle.aa_explain_reach.specs.declared.reach.Reach.{Reach}
use Rattle.aa_explain_reach.specs.declared.reached.Reached.{Reached as Node}
use Rattle.aatry_claims.specs.Sentences.{absent_told, owner_note, owner_word}
use Rattle.aatry_reach.specs.Finding.{Found}
use Rattle.aatry_reach.specs.declared.finding.Finding.{Finding}
use Rattle.aatry_reach.specs.declared.finding.Finding.TheVariants.{Absent, Reached}
use Rattle.aatry_report.specs.Fields.{Member, MemberWord, Number, Text, Words, told}
use Rattle.aatry_report.specs.declared.form.Form.{Form}
use Rattle.aatry_report.specs.declared.form.Form.TheVariants.{Records}
use Rattle.aatry_why.specs.Transitions.{started_text}

-- under what a program runs, in words: names as they are
abbrev pub place_words : Started → List ℕ
place_words Null = codes "complain null"
place_words (Under entry child) = started_text Records (Under entry child)
place_words (Stacked base members) = started_text Records (Stacked base members)
place_words Unconfined = started_text Records Unconfined
place_words Nowhere = started_text Records Nowhere

abbrev pub words_if : Option Started → List ℕ
words_if None = []
words_if (Some to) = place_words to

-- the place of a node
abbrev pub place_text : List (Option Loaded) → ExecTo → List ℕ
place_text slots to = words_if (seen_to slots to)

-- who starts programs from there, by the name of the one who is asked about
abbrev pub node_text : List (Option Loaded) → Option Node → List ℕ
node_text slots None = []
node_text slots (Some node) = place_text slots node.start.to

abbrev pub from_text : List (Option Loaded) → List ℕ → List Node → Option ℕ → List ℕ
from_text slots name nodes None = name
from_text slots name nodes (Some number) = node_text slots (slice_get nodes number)

-- a place that is reached, who starts a program that runs there, its path, and whose file that is, with the kind of its record
unfoldable pub reached_by : Form → (kind name place from path note owned : List ℕ) → List ℕ
reached_by form kind name place from path note owned =
    told form kind
    (Member (codes "name") name ∷ Words (codes "  ") ∷ Text (codes "place") place ∷ Words (codes ": ") ∷ Text (codes "from") from
    ∷ Words (codes " starts ") ∷ Text (codes "path") path ∷ Words note ∷ MemberWord (codes "owned") owned ∷ [])

-- the same of a node among all
abbrev pub node_told : Form → List (Option Loaded) → (kind name : List ℕ) → List Node → Node → List ℕ
node_told form slots kind name nodes node =
    reached_by form kind name (place_text slots node.start.to) (from_text slots name nodes node.from) node.start.path.items
    (owner_note node.start.owned) (owner_word node.start.owned)

-- who starts programs whose paths are too many
abbrev pub many_told : Form → List (Option Loaded) → List ℕ → List Node → Option ℕ → List ℕ
many_told form slots name nodes from =
    told form (codes "too_many")
    (Member (codes "name") name ∷ Words (codes "  too many paths: ") ∷ Text (codes "from") (from_text slots name nodes from) ∷ [])

-- how many places are reached by the starts of somebody
abbrev pub heading_told : Form → List ℕ → ℕ → List ℕ
heading_told form name count =
    told form (codes "reach") (Text (codes "name") name ∷ Words (codes ": ") ∷ Number (codes "reached") count ∷ Words (codes " reached") ∷ [])

-- all that is told of them
abbrev pub reach_told : Form → List (Option Loaded) → List ℕ → Reach → List ℕ
reach_told form slots name reach =
    heading_told form name (length reach.nodes.items) ++ flat_map (node_told form slots (codes "reached") name reach.nodes.items) reach.nodes.items
    ++ flat_map (many_told form slots name reach.nodes.items) reach.unknown.items

-- what is told of a name
abbrev pub finding_told : Form → List (Option Loaded) → List ℕ → Finding → List ℕ
finding_told form slots name Absent = absent_told form name
finding_told form slots name (Reached reach) = reach_told form slots name reach

abbrev pub found_told : Form → List (Option Loaded) → Found → List ℕ
found_told form slots found = finding_told form slots found.name found.finding

abbrev pub all_told : Form → List (Option Loaded) → List Found → List ℕ
all_told form slots found = flat_map (found_told form slots) found
