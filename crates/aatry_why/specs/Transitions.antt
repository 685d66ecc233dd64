-- The report on where a transition leads (docs/policy.md, "The start of a program").
use Rattle.std.specs.Prelude.{ℕ, if◌then◌else◌, is_some, List, [], ◌∷◌, ◌++◌, Option, None, Some, codes, option_and_then}
use Rattle.std.specs.Option.{option_map}
use Rattle.aa_decide.specs.Exec.{Nowhere, Null, Stacked, Started, Unconfined, Under}
use Rattle.aa_explain.specs.Leads.{Lead}
use Rattle.aa_profile_data.specs.ExecWords.{row}
use Rattle.aa_profile_data.specs.declared.exec_word.Destination.{Destination}
use Rattle.aa_profile_data.specs.declared.exec_word.Destination.TheVariants as to
use Rattle.aa_profile_data.specs.declared.profile.Transition.{Transition}
use Rattle.aa_bytes.specs.Quoting.{written_text}
use Rattle.aa_profile_data.specs.Stacks.{stack_of}
use Rattle.aa_set_answers.specs.Answers.{base_name}
use Rattle.aa_set_answers.specs.ProfileNames.{full_name_at}
use Rattle.aa_set_answers.specs.RuleLines.{exec_text}
use Rattle.aa_set_answers.specs.StackNames.{stack_name}
use Rattle.aatry_report.specs.Headings.{heading_line}
use Rattle.aatry_report.specs.Fields.{Plain, Quoted, Said, Words, told}
use Rattle.aatry_report.specs.declared.form.Form.{Form}
use Rattle.aatry_report.specs.declared.form.Form.TheVariants.{Lines, Records}

-- a name, quoted as in lines, or as it is
abbrev pub name_text : Form → List ℕ → List ℕ
name_text Lines name = written_text name
name_text Records name = name

-- a stack of these members, on a base of this name, if it has one
abbrev pub stacked_text : Form → Option (List ℕ) → List (List ℕ) → List ℕ
stacked_text form base members = name_text form (stack_name base members)

-- under what a program runs that is started: its full name, or the word where that is no profile, as none is named
abbrev pub started_text : Form → Started → List ℕ
started_text form (Under entry child) = name_text form (full_name_at entry.profile child)
started_text form (Stacked base members) = stacked_text form (option_map base_name base) members
started_text form Unconfined = codes "unconfined"
started_text form Null = []
started_text form Nowhere = []

-- the destination of a transition as it is printed, if it leads somewhere
abbrev pub destination_text : Form → Option Started → Option (List ℕ)
destination_text form to = option_map (started_text form) to

-- the name of the base, if a program runs under a stack that is on one
abbrev pub stack_base : Started → Option (List ℕ)
stack_base (Under entry child) = None
stack_base (Stacked base members) = option_map base_name base
stack_base Unconfined = None
stack_base Null = None
stack_base Nowhere = None

-- the name of the base of the stack to which a transition leads, if it leads to one that is on a base
abbrev pub destination_base : Option Started → Option (List ℕ)
destination_base to = option_and_then stack_base to

-- one of the names of a stack doesn't exist, or its base
abbrev pub stack_lack : List ℕ → List ℕ
stack_lack name = written_text name ++ codes " isn't in force as a whole"

-- a name doesn't exist. The asker always exists, and so does no profile.
abbrev pub name_lack : List ℕ → Destination → List ℕ
name_lack name to.Profile = written_text name ++ codes " isn't in force"
name_lack name to.Child = written_text name ++ codes " is no child or hat of who asks"
name_lack name to.Inherit = []
name_lack name to.Unconfined = []

-- nothing attaches
abbrev pub attachment_lack : Destination → List ℕ
attachment_lack to.Profile = codes "no profile in force is attached"
attachment_lack to.Child = codes "no child is attached"
attachment_lack to.Inherit = []
attachment_lack to.Unconfined = []

-- what doesn't exist, where a destination leads nowhere
abbrev pub lack_text : Option (List ℕ) → Destination → List ℕ
lack_text None destination = attachment_lack destination
lack_text (Some name) destination = if is_some (stack_of name) then stack_lack name else name_lack name destination

-- what a transition's word leads to and doesn't exist
abbrev pub lack_of : Transition → List ℕ
lack_of transition = lack_text transition.target (row transition.word).destination

-- a transition, by the text of its rule, and two fields, each after its words
unfoldable pub transition_told : Form → (rule words : List ℕ) → Said → (further : List ℕ) → Said → List ℕ
transition_told form rule words field further other =
    told form (codes "transition") (Words (codes "  ") ∷ Plain (codes "rule") rule ∷ Words words ∷ field ∷ Words further ∷ other ∷ [])

-- one that leads somewhere, and the base of the stack to which it leads, if it has one
abbrev pub led_text : Form → (rule to : List ℕ) → (base : Option (List ℕ)) → List ℕ
led_text form rule to None = transition_told form rule (codes ": leads to ") (Plain (codes "leads_to") to) [] (Words [])
led_text form rule to (Some base) = transition_told form rule (codes ": leads to ") (Plain (codes "leads_to") to) (codes ", on ") (Quoted (codes "on") base)

-- one to whose destination something lacks, and where its fallback leads, if it leads somewhere
abbrev pub lacking_text : Form → (rule lack : List ℕ) → (fallback : Option (List ℕ)) → List ℕ
lacking_text form rule lack None = transition_told form rule (codes ": ") (Plain (codes "lacks") lack) (codes ", so it leads nowhere") (Words [])
lacking_text form rule lack (Some to) =
    transition_told form rule (codes ": ") (Plain (codes "lacks") lack) (codes ", so it falls back to ") (Plain (codes "falls_back_to") to)

-- a transition, by where its word leads, the base of that, and where its fallback leads
abbrev pub line_of : Form → Transition → Option (List ℕ) → Option (List ℕ) → Option (List ℕ) → List ℕ
line_of form transition (Some to) base fallback = led_text form (exec_text (Some transition)) to base
line_of form transition None base fallback = lacking_text form (exec_text (Some transition)) (lack_of transition) fallback

-- The line of a transition that leads somewhere, below a heading. No fallback leads to a stack.
abbrev pub transition_lines : Form → Lead → List ℕ
transition_lines form lead =
    heading_line form (codes "transition")
    ++ line_of form lead.transition (destination_text form lead.to) (destination_base lead.to) (destination_text form lead.fallback)
