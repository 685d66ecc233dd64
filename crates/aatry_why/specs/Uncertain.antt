-- The files that are left out on which an answer could depend (docs/aatry.md).
use Rattle.std.specs.Prelude.{ℕ, Bool, true, false, if◌then◌else◌, List, [], ◌++◌, Option, None, Some}
use Rattle.aa_bytes.specs.Bytes.{ampersand}
use Rattle.aa_bytes.specs.Texts.{begins_with_byte}
use Rattle.aa_decide.specs.Exec.{Asker}
use Rattle.aa_decide_ready.specs.Confinement.{By, ByName, Confinement, Unconfined}
use Rattle.aa_decide_ready.specs.Entries.{Loaded}
use Rattle.aa_explain.specs.Leads.{Lead, lead_of}
use Rattle.aa_profile_data.specs.ExecWords.{row}
use Rattle.aa_profile_data.specs.declared.exec_word.Destination.{Destination}
use Rattle.aa_profile_data.specs.declared.exec_word.Destination.TheVariants as to
use Rattle.aa_set_answers.specs.Answers.{who_asks}
use Rattle.aa_set_answers.specs.Askers.{asker}
use Rattle.aa_set_commands.specs.Question.{OfAccess, OfExec, Question}
use Rattle.aatry_policy.specs.Folders.{Folder, policy_in}
use Rattle.aatry_report.specs.declared.form.Form.{Form}
use Rattle.aatry_uncertain.specs.LeftOutHeads.{LeftOutHead, heads_left_out}
use Rattle.aatry_uncertain.specs.Told.{name_lines, start_lines}
use Rattle.aatry_why.specs.How.{confinement_of}
use Rattle.aatry_why.specs.Targets.{target_lines}

-- a target that leaves it to attachment to the path which profile a program runs under: there is none, or it is a stack on that profile
abbrev pub is_open_target : Option (List ℕ) → Bool
is_open_target None = true
is_open_target (Some name) = begins_with_byte ampersand name

-- a profile is looked for that attaches to the path
abbrev pub asks_profiles : Option (List ℕ) → Destination → Bool
asks_profiles target to.Profile = is_open_target target
asks_profiles target to.Child = false
asks_profiles target to.Inherit = false
asks_profiles target to.Unconfined = false

-- the profiles that are left out and may attach to the path, where such a profile is looked for
abbrev pub attached_lines : Form → List ℕ → List LeftOutHead → List ℕ → Bool → List ℕ
attached_lines form base heads path asked = if asked then start_lines form base path heads else []

-- the profiles that are left out on which it depends where the rules lead, if they lead somewhere: by the path, and by the names of the target
abbrev pub uncertain_lead : Form → List ℕ → List Loaded → List LeftOutHead → List ℕ → Option Lead → List ℕ
uncertain_lead form base entries heads path None = []
uncertain_lead form base entries heads path (Some lead) =
    attached_lines form base heads path (asks_profiles lead.transition.target (row lead.transition.word).destination)
    ++ target_lines form base entries heads lead.transition.target (row lead.transition.word).destination

-- those profiles by what confines the asker: where no rule decides, its path always does
abbrev pub uncertain_confined : Form → List ℕ → List Loaded → List LeftOutHead → Bool → List ℕ → Asker → Confinement → List ℕ
uncertain_confined form base entries heads owned path who Unconfined = start_lines form base path heads
uncertain_confined form base entries heads owned path who ByName = start_lines form base path heads
uncertain_confined form base entries heads owned path who (By section mediation) = uncertain_lead form base entries heads path (lead_of owned path entries who)

-- those profiles by the asker
abbrev pub uncertain_exec : Form → List ℕ → List Loaded → List LeftOutHead → Bool → List ℕ → Option Asker → List ℕ
uncertain_exec form base entries heads owned path None = start_lines form base path heads
uncertain_exec form base entries heads owned path (Some who) = uncertain_confined form base entries heads owned path who (confinement_of who)

-- the profiles that are left out on which it depends under which profile a program runs; for any other question, nothing
abbrev pub uncertain_start : Form → List ℕ → List Loaded → List LeftOutHead → Option Asker → Question → List ℕ
uncertain_start form base entries heads asking (OfAccess who request) = []
uncertain_start form base entries heads asking (OfExec who owned path) = uncertain_exec form base entries heads owned path asking

-- the profiles that are left out on which an answer depends, by the asker; where nothing of the name is loaded, those that have the name
abbrev pub uncertain_by : Form → List ℕ → List Loaded → List LeftOutHead → Question → Option (Option Asker) → List ℕ
uncertain_by form base entries heads question None = name_lines form base (who_asks question) heads
uncertain_by form base entries heads question (Some asking) = uncertain_start form base entries heads asking question

-- the profiles that are left out on which the answer of a policy set to a question could depend
abbrev pub uncertain_of : Form → List ℕ → List Loaded → List LeftOutHead → Question → List ℕ
uncertain_of form base entries heads question = uncertain_by form base entries heads question (asker entries (who_asks question))

-- the files that are left out on which an answer of a folder could depend
abbrev pub uncertain_in : Form → Folder → Question → List ℕ
uncertain_in form folder question = uncertain_of form folder.base (policy_in folder) (heads_left_out folder) question
