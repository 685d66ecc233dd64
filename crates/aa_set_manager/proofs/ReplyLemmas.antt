-- What a command that takes memory is answered.
use Rattle.std.proofs.Common.{◌≡◌, ◌≢◌, ◌⊎◌, ℕ, Bool, true, false, not, ◌&&◌, List, Option, None, Some, Result, Ok, Err, refl, sym, ap, ◌∙◌, inl, inr}
use Rattle.std.specs.Result.{IfOk, IfErr, OnOk, OnErr, MatchResult}
use Rattle.aa_set_manager.specs.Changes.{change_takes_memory, is_disabled, is_loaded}
use Rattle.aa_set_commands.specs.Command.{Command, Make, Mark, PolicyChange}
use Rattle.aa_set_manager.specs.Manager.{Managed, is_mark_name, made, marking}
use Rattle.aa_decide_ready.specs.Entries.{Loaded}
use Rattle.aa_set_commands.specs.Refusal.{IsRefusalOf, plain}
use Rattle.aa_set_manager.specs.Outcomes.{answered, changed, obeyed, obeyed_flagged, takes_memory}
use Rattle.aa_text_files.specs.Files.{File}
use Rattle.aa_text_files.specs.declared.text_error.Place.{Place}
use Rattle.aa_set_commands.specs.declared.refusal.Refusal.{Refusal}
use Rattle.aa_set_commands.specs.declared.refusal.RefusalKind.{RefusalKind}
use Rattle.aa_set_commands.specs.declared.refusal.RefusalKind.TheVariants.{Memory}
use Rattle.aa_set_manager.specs.declared.reply.Reply.{Reply}
use Rattle.aa_set_manager.specs.declared.reply.Reply.TheVariants.{Answered, Done, Refused}

-- a refusal is that of want of memory, or another
memory_or_not : (refusal : Refusal) → (refusal ≡ plain Memory) ⊎ (refusal ≢ plain Memory)
memory_or_not refusal = by refusal.refusal refusal.place refl refl
  where
    by : (kind : RefusalKind) (place : Option Place) → refusal.refusal ≡ kind → refusal.place ≡ place → (refusal ≡ plain Memory) ⊎ (refusal ≢ plain Memory)
    by Memory None k p = let whole : refusal ≡ record { refusal = refusal.refusal; place = refusal.place } = refl in inl (whole ∙ rw (k, p) refl)
    by Memory (Some there) k p = inr (λ e. let wrong : Some there ≡ None = sym p ∙ ap (λ r. r.place) e in cc)
    by _ place k p = inr (λ e. let wrong = sym k ∙ ap (λ r. r.refusal) e in cc)

-- what holds of each refusal holds of the one that came
pub of-each : {T : Type 0} {Q : Refusal → Type 0} (outcome : Result T Refusal) → ((refusal : Refusal) → Q refusal) → IfErr outcome Q
of-each (Ok done) each = tt
of-each (Err refusal) each = each refusal

-- what follows from what holds of the refusal that came
pub of-that : {T : Type 0} {P Q : Refusal → Type 0} (outcome : Result T Refusal) → IfErr outcome P → ((refusal : Refusal) → P refusal → Q refusal) → IfErr outcome Q
of-that (Ok done) holds each = tt
of-that (Err refusal) holds each = each refusal holds

-- a profile that is loaded and not disabled is disabled with memory
pub disable-takes : {T : Type 0} (name : List ℕ) (entries : List Loaded) (outcome : Result T Refusal)
    → IfErr outcome (λ refusal. refusal ≡ plain Memory → is_loaded name entries ≡ true)
    → IfErr outcome (λ refusal. refusal ≡ plain Memory → is_disabled name entries ≡ false)
    → IfErr outcome (λ refusal. refusal ≡ plain Memory → (is_loaded name entries && not (is_disabled name entries)) ≡ true)
disable-takes name entries (Ok done) loaded in_force = tt
disable-takes name entries (Err refusal) loaded in_force = λ memory. rw (loaded memory, in_force memory) refl

-- a command was accepted, refused, or found no memory
obeyed-changed : (files : List File) (managed after : Managed) (command : Command) (becomes : Result Managed Refusal) (outcome : Result (Unit {0}) Refusal) (reply : Reply)
    → obeyed files managed command ≡ changed managed becomes
    → OnOk outcome (becomes ≡ Ok after)
    → IfErr outcome (IsRefusalOf becomes)
    → OnErr outcome (after ≡ managed)
    → IfErr outcome (λ refusal. refusal ≡ plain Memory → takes_memory managed command ≡ true)
    → MatchResult outcome (λ _. reply ≡ Done) (λ refusal. reply ≡ Refused refusal)
    → (flag : Bool) × (record { reply = reply; managed = after } ≡ obeyed_flagged files managed flag command)
obeyed-changed files managed after command becomes (Ok done) reply is accepted is_refused stays takes answer =
    (false, rw (answer, is, accepted) refl)
obeyed-changed files managed after command becomes (Err refusal) reply is accepted is_refused stays takes answer = elim (memory_or_not refusal) [
  | inl memory ↦ (true, rw (answer, memory, stays, takes memory) refl)
  | inr other ↦ (false, rw (answer, is, is_refused other, stays) refl)
]

-- so a change
pub obeyed-made : (files : List File) (managed after : Managed) (change : PolicyChange) (outcome : Result (Unit {0}) Refusal) (reply : Reply)
    → OnOk outcome (made files managed change ≡ Ok after)
    → IfErr outcome (IsRefusalOf (made files managed change))
    → OnErr outcome (after ≡ managed)
    → IfErr outcome (λ refusal. refusal ≡ plain Memory → change_takes_memory managed.machine.now change ≡ true)
    → MatchResult outcome (λ _. reply ≡ Done) (λ refusal. reply ≡ Refused refusal)
    → (flag : Bool) × (record { reply = reply; managed = after } ≡ obeyed_flagged files managed flag (Make change))
obeyed-made files managed after change outcome reply = obeyed-changed files managed after (Make change) (made files managed change) outcome reply refl

-- and a mark
pub obeyed-mark : (files : List File) (managed after : Managed) (name : List ℕ) (outcome : Result (Unit {0}) Refusal) (reply : Reply)
    → OnOk outcome (marking name managed ≡ Ok after)
    → IfErr outcome (IsRefusalOf (marking name managed))
    → OnErr outcome (after ≡ managed)
    → IfErr outcome (λ refusal. refusal ≡ plain Memory → is_mark_name name ≡ true)
    → MatchResult outcome (λ _. reply ≡ Done) (λ refusal. reply ≡ Refused refusal)
    → (flag : Bool) × (record { reply = reply; managed = after } ≡ obeyed_flagged files managed flag (Mark name))
obeyed-mark files managed after name outcome reply = obeyed-changed files managed after (Mark name) (marking name managed) outcome reply refl

-- what is asked was answered, refused, or found no memory
pub obeyed-answered : {V : Type 0} (items : V → List ℕ) (files : List File) (managed : Managed) (command : Command) (answer : Result (List ℕ) Refusal) (outcome : Result V Refusal) (reply : Reply)
    → obeyed files managed command ≡ answered managed answer
    → IfOk outcome (λ lines. answer ≡ Ok (items lines))
    → IfErr outcome (IsRefusalOf answer)
    → IfErr outcome (λ refusal. refusal ≡ plain Memory → takes_memory managed command ≡ true)
    → MatchResult outcome (λ lines. reply ≡ Answered (items lines)) (λ refusal. reply ≡ Refused refusal)
    → (flag : Bool) × (record { reply = reply; managed = managed } ≡ obeyed_flagged files managed flag command)
obeyed-answered items files managed command answer (Ok lines) reply is done is_refused takes said =
    (false, rw (said, is, done) refl)
obeyed-answered items files managed command answer (Err refusal) reply is done is_refused takes said = elim (memory_or_not refusal) [
  | inl memory ↦ (true, rw (said, memory, takes memory) refl)
  | inr other ↦ (false, rw (said, is, is_refused other) refl)
]
