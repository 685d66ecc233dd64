-- The manager: the machine over policy sets, and what each command makes of it (docs/commands.md).
use Rattle.std.specs.Prelude.{◌≡◌, ℕ, Bool, true, ◌&&◌, nat_le, if◌then◌else◌, List, [], ◌∷◌, length, Result, Ok, Err}
use Rattle.aa_text_files.specs.Files.{File}
use Rattle.aa_history.specs.Machine.{Kept, Machine, begun, can_go_back, can_go_on, committed, gone_back, gone_on, gone_to_mark, is_marked, with_mark}
use Rattle.aa_profile.specs.FileReading.{file_profiles_in}
use Rattle.aa_profile_data.specs.declared.profile.Mode.{Mode}
use Rattle.aa_profile_data.specs.declared.profile.Profile.{Profile}
use Rattle.aa_decide_ready.specs.Entries.{Loaded}
use Rattle.aa_decide_ready.specs.Named.{have_distinct_names}
use Rattle.aa_set_commands.specs.Command.{PolicyChange}
use Rattle.aa_set_commands.specs.Refusal.{plain}
use Rattle.aa_set_commands.specs.declared.refusal.Refusal.{Refusal}
use Rattle.aa_set_commands.specs.declared.refusal.RefusalKind.TheVariants.{BadRequest, NoMark, NothingToRedo, NothingToUndo}
use Rattle.aa_profile_parsing.specs.declared.language.Language.{Language}
use Rattle.aa_profile_parsing.specs.declared.language.Language.TheVariants.{Three}
use Rattle.aa_set_manager.specs.declared.settings.Settings.{Settings}
use Rattle.aa_set_manager.specs.Changes.{changed, parts_of, with_added, with_disabled, with_mode, with_replaced}
use Rattle.aa_set_manager.specs.Limits.{longest_mark}

-- A manager, as contracts see it: how profiles are read and loaded, the machine, and how many parts each change has that leads from one of its
-- policy sets to the next.
pub record Managed : Type 0 where
  pub settings : Settings
  pub machine : Machine (List Loaded)
  pub sizes : List ℕ

-- each of these policy sets has distinct names
abbrev pub AreDistinct : List (List Loaded) → Type 0
AreDistinct [] = Unit {0}
AreDistinct (set ∷ sets) = (have_distinct_names set ≡ true) × AreDistinct sets

-- the manager of a machine and of the sizes of its changes
abbrev pub managed_by : Settings → Kept (List Loaded) → Managed
managed_by settings kept = record { settings = settings; machine = kept.machine; sizes = kept.sizes }

-- what a manager keeps
abbrev pub kept_of : Managed → Kept (List Loaded)
kept_of managed = record { machine = managed.machine; sizes = managed.sizes }

-- a manager of the empty policy set, whose files are read by a language
abbrev pub new_manager_in : Language → Bool → Managed
new_manager_in language force_complain = managed_by (record { language = language; force_complain = force_complain }) (begun [])

-- a manager of the empty policy set, whose files are read by the language of AppArmor 3
abbrev pub new_manager : Bool → Managed
new_manager force_complain = new_manager_in Three force_complain

-- after an accepted change of so many parts to a policy set
abbrev pub after_commit : Managed → List Loaded → ℕ → Managed
after_commit managed entries size = managed_by managed.settings (committed (kept_of managed) entries size)

-- after a change of so many parts to a policy set, if it wasn't refused
abbrev pub after_change : Managed → ℕ → Result (List Loaded) Refusal → Result Managed Refusal
after_change managed size (Ok entries) = Ok (after_commit managed entries size)
after_change managed size (Err refusal) = Err refusal

-- the manager after a change, or the refusal
abbrev pub made : List File → Managed → PolicyChange → Result Managed Refusal
made files managed change = after_change managed (parts_of files managed.settings change) (changed files managed.settings managed.machine.now change)

-- some file has these profiles, by some language
abbrev pub AreOfFile : List Profile → Type 0
AreOfFile profiles = (language : Language) × (files : List File) × (name : List ℕ) × (file_profiles_in language files name ≡ Ok profiles)

-- the manager after profiles are added, or the refusal: `add FILE` adds those of the file
abbrev pub added : Managed → List Profile → Result Managed Refusal
added managed profiles = after_change managed (length profiles) (with_added managed.settings.force_complain managed.machine.now profiles)

-- the manager after profiles replace those of their names, as `replace FILE` does it, or the refusal
abbrev pub replaced : Managed → List Profile → Result Managed Refusal
replaced managed profiles = after_change managed (length profiles) (with_replaced managed.settings.force_complain managed.machine.now profiles)

-- the manager after `enforce NAME` or `complain NAME`, or the refusal: that change needs no files
abbrev pub in_mode : Mode → Managed → List ℕ → Result Managed Refusal
in_mode mode managed name = after_change managed 1 (with_mode mode managed.machine.now name)

-- the manager after `disable NAME`, or the refusal: that change needs no files
abbrev pub disabled : Managed → List ℕ → Result Managed Refusal
disabled managed name = after_change managed 1 (with_disabled managed.machine.now name)

-- the manager after `undo N`, or the refusal
abbrev pub undone : ℕ → Managed → Result Managed Refusal
undone n managed = if can_go_back n managed.machine then Ok (record managed { machine = gone_back n managed.machine }) else Err (plain NothingToUndo)

-- the manager after `redo N`, or the refusal
abbrev pub redone : ℕ → Managed → Result Managed Refusal
redone n managed = if can_go_on n managed.machine then Ok (record managed { machine = gone_on n managed.machine }) else Err (plain NothingToRedo)

-- a mark can have this name
abbrev pub is_mark_name : List ℕ → Bool
is_mark_name name = nat_le 1 (length name) && nat_le (length name) longest_mark

-- the manager after `mark NAME`, or the refusal
abbrev pub marking : List ℕ → Managed → Result Managed Refusal
marking name managed = if is_mark_name name then Ok (record managed { machine = with_mark name managed.machine }) else Err (plain BadRequest)

-- the manager after `back NAME`, or the refusal
abbrev pub back_at : List ℕ → Managed → Result Managed Refusal
back_at name managed =
    if is_marked name managed.machine then Ok (record managed { machine = gone_to_mark name managed.machine }) else Err (plain NoMark)

-- a further step, where the one before was accepted
abbrev pub next : (Managed → Result Managed Refusal) → Result Managed Refusal → Result Managed Refusal
next step (Ok managed) = step managed
next step (Err refusal) = Err refusal
