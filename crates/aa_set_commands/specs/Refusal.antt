-- The refusals: each one's number and name, as replies print them (docs/commands.md). Those of a file are in the tables of the layers below.
use Rattle.std.specs.Prelude.{◌≡◌, ◌≢◌, ℕ, List, codes, None, Result, Err}
use Rattle.aa_profile_parsing.specs.ProfileError.{described as described_file}
use Rattle.aa_profile_parsing.specs.declared.profile_error.ProfileError.{ProfileError}
use Rattle.aa_profile_parsing.specs.declared.profile_error.ProfileRefusal.{ProfileRefusal}
use Rattle.aa_profile_parsing.specs.declared.profile_error.ProfileRefusal.TheVariants as profile
use Rattle.aa_set_commands.specs.declared.refusal.Refusal.{Refusal}
use Rattle.aa_set_commands.specs.declared.refusal.RefusalKind.{RefusalKind}
use Rattle.aa_set_commands.specs.declared.refusal.RefusalKind.TheVariants.{File, Exists, Absent, Disabled, NothingToUndo, NothingToRedo, BadCommand, LineTooLong, BadRequest, NoMark, Memory}

-- the one table of numbers and names of this layer
abbrev pub described : RefusalKind → ℕ × List ℕ
described (File refusal) = described_file refusal
described Exists = (60, codes "Exists")
described Absent = (61, codes "Absent")
described Disabled = (62, codes "Disabled")
described NothingToUndo = (63, codes "NothingToUndo")
described NothingToRedo = (64, codes "NothingToRedo")
described BadCommand = (65, codes "BadCommand")
described LineTooLong = (66, codes "LineTooLong")
described BadRequest = (67, codes "BadRequest")
described NoMark = (68, codes "NoMark")
described Memory = (99, codes "Memory")

abbrev pub number_of : RefusalKind → ℕ
number_of kind = (described kind).0

abbrev pub name_of : RefusalKind → List ℕ
name_of kind = (described kind).1

-- a refusal without a place
abbrev pub plain : RefusalKind → Refusal
plain kind = record { refusal = kind; place = None }

-- what a definition gives is this refusal, unless memory ran out in a call, which no definition foresees
abbrev pub IsRefusalOf : {A : Type 0} → Result A Refusal → Refusal → Type 0
IsRefusalOf outcome refusal = refusal ≢ plain Memory → outcome ≡ Err refusal

-- the refusal of a command whose file is refused; want of memory is one refusal, so this never gives `File Memory`
abbrev pub kind_of_profile : ProfileRefusal → RefusalKind
kind_of_profile profile.Memory = Memory
kind_of_profile refusal = File refusal

-- the refusal of a command, at the place that the file's refusal has
abbrev pub refusal_of_profile : ProfileError → Refusal
refusal_of_profile error = record { refusal = kind_of_profile error.refusal; place = error.place }
