-- What making a change comes to, from what became of its file.
use Rattle.std.proofs.Common.{◌≡◌, ◌≢◌, ◌⊎◌, ◌∙◌, ℕ, Bool, true, false, cond, length, List, [], ◌∷◌, Option, None, Some, Result, Ok, Err, refl, sym, ap, inl, inr}
use Rattle.std.specs.Prelude.{nat_le}
use Rattle.std.specs.Result.{IfErr, IfOk, MatchResult, OnErr, OnOk}
use Rattle.std.proofs.lemmas.List.{append-nil}
use Rattle.aa_profile.specs.FilePlaces.{file_places_in}
use Rattle.aa_profile.specs.FileReading.{file_profiles_in}
use Rattle.aa_profile_data.specs.declared.profile.Profile.{Profile}
use Rattle.aa_profile_parsing.specs.declared.profile_error.ProfileError.{ProfileError}
use Rattle.aa_profile_parsing.specs.declared.language.Language.{Language}
use Rattle.aa_profile_grammar.specs.declared.places.ProfilePlaces.{ProfilePlaces}
use Rattle.aa_set_manager.specs.Outcomes.{command_in, command_outcome, line_outcome, obeyed_flagged, refused}
use Rattle.aa_set_manager.specs.Manager.{Managed, added, after_change, made, replaced}
use Rattle.aa_set_manager.specs.declared.reply.Reply.{Reply}
use Rattle.aa_set_manager.specs.declared.reply.Reply.TheVariants.{Done, Refused}
use Rattle.aa_set_manager.specs.Changes.{by_file, change_takes_memory, profile_count, with_added, with_replaced}
use Rattle.aa_set_commands.specs.Command.{Add, Ask, Back, Command, Listed, Make, Mark, PolicyChange, Redo, Replace, Show, Undo}
use Rattle.aa_set_commands.specs.Refusal.{IsRefusalOf, plain}
use Rattle.aa_set_commands.specs.declared.refusal.Refusal.{Refusal}
use Rattle.aa_set_commands.specs.declared.refusal.RefusalKind.{RefusalKind}
use Rattle.aa_set_commands.specs.declared.refusal.RefusalKind.TheVariants.{LineTooLong, Memory}
use Rattle.aa_set_commands.specs.Limits.{longest_line}
use Rattle.aa_text_files.specs.Files.{File}
use Rattle.aa_text_files.specs.declared.text_error.Place.{Place}
use Rattle.aatry_policy.specs.Origins.{file_origins, origins_of}
use Rattle.aatry_policy.specs.Profiles.{file_at}
use Rattle.aatry_session_told.specs.Commands.{change_in}
use Rattle.aatry_session.specs.Origins.{origins_at}

-- the profiles of a file are added as they are made a change of, and put in their places
pub added-of-file : (files : List File) (name : List ℕ) (managed : Managed) (profiles : List Profile)
    → file_profiles_in managed.settings.language files name ≡ Ok profiles
    → added managed profiles ≡ made files managed (Add name)
added-of-file files name managed profiles h = sym (ap (λ read. after_change managed (profile_count read) (by_file (with_added managed.settings.force_complain managed.machine.now) read)) h)

pub replaced-of-file : (files : List File) (name : List ℕ) (managed : Managed) (profiles : List Profile)
    → file_profiles_in managed.settings.language files name ≡ Ok profiles
    → replaced managed profiles ≡ made files managed (Replace name)
replaced-of-file files name managed profiles h = sym (ap (λ read. after_change managed (profile_count read) (by_file (with_replaced managed.settings.force_complain managed.machine.now) read)) h)

-- where the profiles of a file are read that is read
pub origins-of-file : (language : Language) (files : List File) (name : List ℕ) (profiles : List Profile) (places : List ProfilePlaces)
    → file_profiles_in language files name ≡ Ok profiles → file_places_in language files name ≡ Some places
    → file_origins name profiles places ≡ origins_at language files name
origins-of-file language files name profiles places read there = sym (ap origins_of is ∙ append-nil (file_origins name profiles places))
  where
    is : file_at language files name ≡ record { name = name; profiles = profiles; places = places } ∷ []
    is =
        ap (λ (own : Result (List Profile) ProfileError). elim own [
          | Err error ↦ []
          | Ok profiles ↦ elim (file_places_in language files name) [ None ↦ [] | Some places ↦ record { name = name; profiles = profiles; places = places } ∷ [] ]
        ]) read
        ∙ ap (λ (own : Option (List ProfilePlaces)). elim own [
          | None ↦ []
          | Some places ↦ record { name = name; profiles = profiles; places = places } ∷ []
        ]) there

-- a refusal is that of want of memory, or another
memory_or_not : (refusal : Refusal) → (refusal ≡ plain Memory) ⊎ (refusal ≢ plain Memory)
memory_or_not refusal = by refusal.refusal refusal.place refl refl
  where
    by : (kind : RefusalKind) (place : Option Place) → refusal.refusal ≡ kind → refusal.place ≡ place → (refusal ≡ plain Memory) ⊎ (refusal ≢ plain Memory)
    by Memory None k p = let whole : refusal ≡ record { refusal = refusal.refusal; place = refusal.place } = refl in inl (whole ∙ rw (k, p) refl)
    by Memory (Some there) k p = inr (λ e. let wrong : Some there ≡ None = sym p ∙ ap (λ r. r.place) e in cc)
    by _ place k p = inr (λ e. let wrong = sym k ∙ ap (λ r. r.refusal) e in cc)

-- a change that always takes memory was accepted, refused, or found none
pub obeyed-made : {T : Type 0} (files : List File) (managed after : Managed) (change : PolicyChange) (outcome : Result T Refusal) (reply : Reply)
    → change_takes_memory managed.machine.now change ≡ true
    → OnOk outcome (made files managed change ≡ Ok after)
    → IfErr outcome (IsRefusalOf (made files managed change))
    → OnErr outcome (after ≡ managed)
    → MatchResult outcome (λ _. reply ≡ Done) (λ refusal. reply ≡ Refused refusal)
    → (flag : Bool) × (record { reply = reply; managed = after } ≡ obeyed_flagged files managed flag (Make change))
obeyed-made files managed after change (Ok done) reply takes accepted is_refused stays answer = (false, rw (answer, accepted) refl)
obeyed-made files managed after change (Err refusal) reply takes accepted is_refused stays answer = elim (memory_or_not refusal) [
  | inl memory ↦ (true, rw (answer, memory, stays, takes) refl)
  | inr other ↦ (false, rw (answer, is_refused other, stays) refl)
]

-- what was loaded of it was read where its profiles are
pub loaded-made : {T : Type 0} (P Q : T → Type 0) (R : Type 0) (outcome : Result T Refusal) (reply : Reply)
    → ((own : T) → P own → Q own → R)
    → IfOk outcome P
    → IfOk outcome Q
    → MatchResult outcome (λ _. reply ≡ Done) (λ refusal. reply ≡ Refused refusal)
    → reply ≡ Done → R
loaded-made P Q R (Ok own) reply both p q answer accepted = both own p q
loaded-made P Q R (Err refusal) reply both p q answer accepted = let wrong = sym answer ∙ accepted in absurd (cc)

-- a command that makes a change is obeyed as that
command-made : (files : List File) (managed : Managed) (flag : Bool) (command : Result (Option Command) Refusal) (change : PolicyChange)
    → change_in command ≡ Some change
    → command_outcome files managed flag command ≡ obeyed_flagged files managed flag (Make change)
command-made files managed flag (Ok (Some (Make own))) change h = let same : own ≡ change = cc in ap (λ c. obeyed_flagged files managed flag (Make c)) same
command-made files managed flag (Err refusal) change h = absurd (cc)
command-made files managed flag (Ok None) change h = absurd (cc)
command-made files managed flag (Ok (Some (Undo n))) change h = absurd (cc)
command-made files managed flag (Ok (Some (Redo n))) change h = absurd (cc)
command-made files managed flag (Ok (Some (Mark name))) change h = absurd (cc)
command-made files managed flag (Ok (Some (Back name))) change h = absurd (cc)
command-made files managed flag (Ok (Some (Ask question))) change h = absurd (cc)
command-made files managed flag (Ok (Some Listed)) change h = absurd (cc)
command-made files managed flag (Ok (Some (Show name))) change h = absurd (cc)

-- and so is its line, if it isn't too long
pub line-made : (files : List File) (managed : Managed) (flag : Bool) (line : List ℕ) (change : PolicyChange)
    → nat_le (length line) longest_line ≡ true
    → change_in (command_in line) ≡ Some change
    → obeyed_flagged files managed flag (Make change) ≡ line_outcome files managed line flag
line-made files managed flag line change short is =
    sym (ap (λ fits. cond fits (command_outcome files managed flag (command_in line)) (refused managed (plain LineTooLong))) short
    ∙ command-made files managed flag (command_in line) change is)
