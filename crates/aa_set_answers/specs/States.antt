-- The states of loaded profiles, as they are written (docs/commands.md, "What is loaded").
use Rattle.std.specs.Prelude.{ℕ, List, ◌++◌, Option, codes}
use Rattle.aa_profile_data.specs.declared.profile.Mode.{Mode}
use Rattle.aa_profile_data.specs.declared.profile.Mode.TheVariants.{Complain, Enforce, Unconfined}
use Rattle.aa_bytes.specs.Quoting.{written_text}
use Rattle.aa_decide_ready.specs.Confinement.{mode_at}
use Rattle.aa_decide_ready.specs.Entries.{Loaded}
use Rattle.aa_decide_ready.specs.declared.entry.State.{State}
use Rattle.aa_decide_ready.specs.declared.entry.State.TheVariants.{Disabled, Modes}
use Rattle.aa_set_answers.specs.ProfileNames.{full_name_at}

-- the word of a mode
abbrev pub mode_word : Mode → List ℕ
mode_word Enforce = codes "enforce"
mode_word Complain = codes "complain"
mode_word Unconfined = codes "unconfined"

-- the word of a profile's state, or of that of its child or hat at an index: its mode, or `disabled` where the profile is
abbrev pub state_word : State → Option ℕ → List ℕ
state_word Disabled child = codes "disabled"
state_word (Modes modes) child = mode_word (mode_at modes child)

-- a profile, or its child or hat at an index, by its full name and its state
abbrev pub written_state : Loaded → Option ℕ → List ℕ
written_state loaded child = written_text (full_name_at loaded.profile child) ++ codes " " ++ state_word loaded.state child
