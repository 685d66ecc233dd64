-- The report on how the answer to the start of a program came about, after the rules that decide.
use Rattle.std.specs.Prelude.{ℕ, Bool, true, false, if◌then◌else◌, List, [], ◌∷◌, ◌++◌, codes, Option, None, Some}
use Rattle.aa_bytes.specs.Bytes.{ampersand}
use Rattle.aa_bytes.specs.Texts.{begins_with_byte, is_empty}
use Rattle.aa_decide.specs.Exec.{Asker}
use Rattle.aa_decide_ready.specs.Confinement.{By, ByName, Confinement, Unconfined, in_state}
use Rattle.aa_decide_ready.specs.Entries.{Loaded}
use Rattle.aa_profile_data.specs.ExecWords.{row}
use Rattle.aa_profile_data.specs.declared.exec_word.Destination.{Destination}
use Rattle.aa_profile_data.specs.declared.exec_word.Destination.TheVariants as to
use Rattle.aa_set_answers.specs.Askers.{asker}
use Rattle.aatry_why.specs.AttachmentLines.{attachment_lines}
use Rattle.aa_explain.specs.Candidates.{Candidate, child_candidates, profile_candidates}
use Rattle.aa_explain.specs.Leads.{Lead, lead_of}
use Rattle.aatry_report.specs.Headings.{heading_line}
use Rattle.aatry_report.specs.Fields.{Word, Words, told}
use Rattle.aatry_report.specs.declared.form.Form.{Form}
use Rattle.aatry_why.specs.Transitions.{transition_lines}

-- the children and hats of the asker; a child or a hat has none
abbrev pub own_children : Asker → List Candidate
own_children asker = elim asker.child [ None ↦ child_candidates asker.entry | Some place ↦ [] ]

-- the candidates among which attachment to the path decides the base of a stack: the profiles, where one would be taken that isn't named
abbrev pub base_candidates : Bool → List Loaded → Destination → List Candidate
base_candidates true entries to.Profile = profile_candidates entries
base_candidates true entries _ = []
base_candidates false entries destination = []

-- the candidates among which attachment to the path decides where a destination leads: without a target, the profiles, or the children of the asker;
-- with one that is a stack on the attaching profile, the profiles
abbrev pub asked_candidates : Option (List ℕ) → List Loaded → Asker → Destination → List Candidate
asked_candidates (Some name) entries asker destination = base_candidates (begins_with_byte ampersand name) entries destination
asked_candidates None entries asker to.Profile = profile_candidates entries
asked_candidates None entries asker to.Child = own_children asker
asked_candidates None entries asker to.Inherit = []
asked_candidates None entries asker to.Unconfined = []

-- the lines of where the rules lead, if they lead somewhere, and of the attachment, where that decides
abbrev pub led_lines : Form → List ℕ → List Loaded → Asker → Option Lead → List ℕ
led_lines form path entries asker None = []
led_lines form path entries asker (Some lead) =
    transition_lines form lead
    ++ attachment_lines form path (asked_candidates lead.transition.target entries asker (row lead.transition.word).destination)

-- no profile in force has a pattern that matches the path
unfoldable pub none_told : Form → List ℕ
none_told form =
    told form (codes "attachment")
    (Words (codes "  ") ∷ Word (codes "standing") (codes "none") ∷ Words (codes ": no profile in force has a pattern that matches the path") ∷ [])

-- the same below a heading
abbrev pub none_attached : Form → List ℕ
none_attached form = heading_line form (codes "attachment") ++ none_told form

-- these lines, or that nothing attaches
abbrev pub lines_or_none : Form → List ℕ → List ℕ
lines_or_none form lines = if is_empty lines then none_attached form else lines

-- where nothing confines the asker, the profiles that may attach to the path
abbrev pub profile_lines : Form → List ℕ → List Loaded → List ℕ
profile_lines form path entries = lines_or_none form (attachment_lines form path (profile_candidates entries))

-- by what confines the asker: where no rule decides, attachment to the path does, and else what the rules say together
abbrev pub confined_lines : Form → Bool → List ℕ → List Loaded → Asker → Confinement → List ℕ
confined_lines form owned path entries asker Unconfined = profile_lines form path entries
confined_lines form owned path entries asker ByName = profile_lines form path entries
confined_lines form owned path entries asker (By section mediation) = led_lines form path entries asker (lead_of owned path entries asker)

-- what confines the asker
abbrev pub confinement_of : Asker → Confinement
confinement_of asker = in_state asker.entry.profile asker.entry.state asker.child

-- by the asker
abbrev pub asked_lines : Form → List Loaded → Option Asker → Bool → List ℕ → List ℕ
asked_lines form entries None owned path = profile_lines form path entries
asked_lines form entries (Some asker) owned path = confined_lines form owned path entries asker (confinement_of asker)

-- the lines of how the answer came about to the asker of this full name, or of the word `unconfined`; nothing for one that doesn't exist
abbrev pub how_lines : Form → List Loaded → List ℕ → Bool → List ℕ → List ℕ
how_lines form entries who owned path = elim (asker entries who) [ None ↦ [] | Some asker ↦ asked_lines form entries asker owned path ]
