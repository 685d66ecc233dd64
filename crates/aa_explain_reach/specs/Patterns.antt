-- The patterns by which it depends on the path of a program under what that runs.
use Rattle.std.specs.Prelude.{ℕ, Bool, true, false, if◌then◌else◌, List, [], ◌∷◌, ◌++◌, Option, None, Some, codes, is_some}
use Rattle.std.specs.List.{filter}
use Rattle.aa_decide.specs.Exec.{Asker}
use Rattle.aa_decide_rules.specs.declared.judgement.Mediation.TheVariants.{Complaining, Enforcing}
use Rattle.aa_decide_ready.specs.Confinement.{By, ByName, Confinement, Unconfined, in_state}
use Rattle.aa_decide_ready.specs.Entries.{Loaded, is_in_force}
use Rattle.aa_explain_paths.specs.Meant.{unasked_patterns}
use Rattle.aa_explain_paths.specs.Telling.{classes_among, telling_among}
use Rattle.aa_profile_data.specs.Cover.{covers_exec}
use Rattle.aa_profile_data.specs.FileRules.{file_patterns}
use Rattle.aa_profile_data.specs.declared.profile.Child.{Child}
use Rattle.aa_profile_data.specs.declared.profile.Rule.{Rule}
use Rattle.aa_profile_data.specs.declared.profile.Rule.TheVariants.{Cap, File, Net, Other}

-- a rule speaks of the start of programs: it denies it, or it has an exec word and denies nothing
abbrev pub speaks_of_starts : Rule → Bool
speaks_of_starts (File rule) = if rule.deny then covers_exec rule else is_some rule.exec
speaks_of_starts (Cap rule) = false
speaks_of_starts (Net rule) = false
speaks_of_starts (Other rule) = false

-- those of some rules that do
abbrev pub starting_rules : List Rule → List Rule
starting_rules rules = filter speaks_of_starts rules

-- what confines who asks
abbrev pub confinement_of : Asker → Confinement
confinement_of asker = in_state asker.entry.profile asker.entry.state asker.child

-- the rules that are asked: none, where nothing confines, and where a name alone does
abbrev pub rules_asked : Confinement → List Rule
rules_asked Unconfined = []
rules_asked ByName = []
rules_asked (By section mediation) = section.rules

-- those of who asks; no one in particular has none
abbrev pub asked_rules : Option Asker → List Rule
asked_rules None = []
asked_rules (Some asker) = rules_asked (confinement_of asker)

-- the rules of who asks that speak of the start of programs; no one in particular has none
abbrev pub start_rules : Option Asker → List Rule
start_rules None = []
start_rules (Some asker) = starting_rules (rules_asked (confinement_of asker))

-- the attachments of a loaded profile; no path is attached to one that is disabled
abbrev pub attaching : Loaded → List (List ℕ)
attaching entry = if is_in_force entry.state then entry.profile.attachments else []

-- those of what a slot holds
abbrev pub attaching_in : Option Loaded → List (List ℕ)
attaching_in None = []
attaching_in (Some entry) = attaching entry

-- those of each
abbrev pub attaching_patterns : List Loaded → List (List ℕ)
attaching_patterns [] = []
attaching_patterns (entry ∷ entries) = attaching entry ++ attaching_patterns entries

-- those of children
abbrev pub children_patterns : List Child → List (List ℕ)
children_patterns [] = []
children_patterns (child ∷ children) = child.attachments ++ children_patterns children

-- those of the children of the profile that asks; a child or a hat has none
abbrev pub own_patterns : Option Asker → List (List ℕ)
own_patterns None = []
own_patterns (Some asker) = elim asker.child [
  | None ↦ children_patterns asker.entry.profile.children
  | Some place ↦ []
]

-- the pattern of all absolute paths
abbrev pub every_pattern : List ℕ
every_pattern = codes "/{,**}"

-- the pattern of all absolute paths, and those of all attachments
abbrev pub attachment_patterns : List Loaded → Option Asker → List (List ℕ)
attachment_patterns entries asker = (every_pattern ∷ attaching_patterns entries) ++ own_patterns asker

-- what no rule speaks of isn't started
abbrev pub refuses_by : Confinement → Bool
refuses_by Unconfined = false
refuses_by ByName = false
refuses_by (By section Enforcing) = true
refuses_by (By section Complaining) = false

abbrev pub refuses : Option Asker → Bool
refuses None = false
refuses (Some asker) = refuses_by (confinement_of asker)

-- The patterns of which one matches each path whose program is started: those of the rules that speak of it, where
-- nothing else is, and else all absolute paths.
abbrev pub wanted_patterns : Option Asker → List (List ℕ)
wanted_patterns asker = if refuses asker then file_patterns (start_rules asker) else every_pattern ∷ []

-- the patterns of rules and of attachments
abbrev pub other_patterns : List Loaded → Option Asker → List (List ℕ)
other_patterns entries asker = file_patterns (start_rules asker) ++ attachment_patterns entries asker

-- all patterns that tell paths apart, and their classes
abbrev pub start_patterns : List Loaded → Option Asker → List (List ℕ)
start_patterns entries asker = telling_among (other_patterns entries asker) (wanted_patterns asker) unasked_patterns

abbrev pub start_classes : List Loaded → Option Asker → List ℕ
start_classes entries asker = classes_among (other_patterns entries asker) (wanted_patterns asker) unasked_patterns
