-- What obeying a command comes to, from what the machine says of it.
use Rattle.std.proofs.Common.{◌≡◌, ◌∙◌, ◌++◌, ℕ, Bool, true, false, cond, ◌&&◌, List, None, OnErr, OnOk, Option, Result, Ok, Err, Some, ap, inr, length, refl, subst, sym}
use Rattle.std.specs.Prelude.{nat_le}
use Rattle.aa_profile_parsing.specs.declared.language.Language.{Language}
use Rattle.aa_set_manager.specs.Manager.{Managed}
use Rattle.aa_set_manager.specs.Outcomes.{Outcome as Obeyed, command_in, line_outcome, refused}
use Rattle.aa_set_manager.specs.declared.reply.Reply.{Reply}
use Rattle.aa_set_manager.specs.declared.reply.Reply.TheVariants.{Answered, Done, Refused, Silent}
use Rattle.aa_set_commands.specs.Command.{Ask, Back, Command, Listed, Make, Mark, PolicyChange, Redo, Show, Undo}
use Rattle.aa_set_commands.specs.Refusal.{plain}
use Rattle.aa_set_commands.specs.declared.refusal.Refusal.{Refusal}
use Rattle.aa_set_commands.specs.declared.refusal.RefusalKind.TheVariants.{NothingToUndo}
use Rattle.aa_set_commands.specs.Limits.{longest_line}
use Rattle.aa_text_files.specs.Files.{File}
use Rattle.aatry_policy.specs.declared.origins.Origin.{Origin}
use Rattle.aatry_session.specs.Changes.{kept_with}
use Rattle.aatry_session_told.specs.Commands.{change_in, is_above, undo_count, undoes_more}
use Rattle.aatry_session_told.specs.History.{change_text}
use Rattle.aatry_session.specs.Origins.{change_origins}
use Rattle.aatry_session.specs.Turns.{Kept, LeavesAs, ObeysAs, depth, done_behind, kept_after, line_obeyed, origins_behind, reply_told, texts_behind, told_of, undoable}

-- the session after a command whose reply, manager, texts and origins are those that its outcome gives, and whose history leaves out as much as before
kept_by : (files : List File) (before after : Kept) (change : Option PolicyChange) (obeyed : Obeyed) (reply : Reply)
    → ◌≡◌ {A = Obeyed} (record { reply = reply; managed = after.managed }) obeyed
    → after.texts ≡ texts_behind (depth before.managed) change reply before.texts
    → after.origins ≡ origins_behind before.managed.settings.language files (depth before.managed) change reply before.origins
    → after.loaded ≡ before.loaded
    → after ≡ kept_after files before change obeyed
kept_by files before after change obeyed reply is texts origins loaded =
    subst (λ o. after ≡ kept_after files before change o) is
    (ap (λ t. record { managed = after.managed; texts = t; origins = after.origins; loaded = after.loaded }) texts
    ∙ ap (λ o. record { managed = after.managed; texts = texts_behind (depth before.managed) change reply before.texts; origins = o; loaded = after.loaded }) origins
    ∙ ap (λ l. record {
      managed = after.managed;
      texts = texts_behind (depth before.managed) change reply before.texts;
      origins = origins_behind before.managed.settings.language files (depth before.managed) change reply before.origins;
      loaded = l;
    }) loaded)

-- what is told of its reply is what is told of it
told_by : (files : List File) (base : List ℕ) (before after : Kept) (change : Option PolicyChange) (obeyed : Obeyed) (reply : Reply) (old new : List ℕ)
    → ◌≡◌ {A = Obeyed} (record { reply = reply; managed = after.managed }) obeyed
    → after.texts ≡ texts_behind (depth before.managed) change reply before.texts
    → new ≡ old ++ reply_told after.managed.settings.language files base after.texts (depth before.managed) (done_behind before.managed change after.managed) reply
    → new ≡ old ++ told_of files base before change obeyed
told_by files base before after change obeyed reply old new is texts told =
    subst (λ o. new ≡ old ++ told_of files base before change o) is
    (subst (λ t. new ≡ old ++ reply_told after.managed.settings.language files base t (depth before.managed) (done_behind before.managed change after.managed) reply) texts told)

on-ok : {A E : Type 0} (r : Result A E) (P Q : Type 0) → (P → Q) → OnOk r P → OnOk r Q
on-ok (Ok x) P Q f p = f p
on-ok (Err e) P Q f p = p

-- what holds always holds at an error
at-err : {A E : Type 0} (r : Result A E) (P : Type 0) → P → OnErr r P
at-err (Ok x) P p = tt
at-err (Err e) P p = p

-- a line that makes no change was obeyed
pub obeyed-other : {A E : Type 0} (r : Result A E) (files : List File) (base : List ℕ) (before after : Kept) (obeyed : Bool → Obeyed) (old new : List ℕ)
    → (flag : Bool) (reply : Reply) (from to : ℕ)
    → ◌≡◌ {A = Obeyed} (record { reply = reply; managed = after.managed }) (obeyed flag)
    → after.texts ≡ before.texts
    → after.origins ≡ before.origins
    → after.loaded ≡ before.loaded
    → from ≡ depth before.managed
    → to ≡ depth after.managed
    → OnOk r (new ≡ old ++ reply_told after.managed.settings.language files base after.texts from to reply)
    → OnOk r (ObeysAs files base before after None obeyed old new)
obeyed-other r files base before after obeyed old new flag reply from to is texts origins loaded first last told =
    on-ok r (new ≡ old ++ reply_told after.managed.settings.language files base after.texts from to reply) (ObeysAs files base before after None obeyed old new)
    (λ put. (
      flag,
      kept_by files before after None (obeyed flag) reply is texts origins loaded,
      told_by files base before after None (obeyed flag) reply old new is texts
          (subst (λ n. new ≡ old ++ reply_told after.managed.settings.language files base after.texts (depth before.managed) n reply) last
          (subst (λ n. new ≡ old ++ reply_told after.managed.settings.language files base after.texts n to reply) first put)),
    )) told

-- it was obeyed where memory ran out for what is told of it, too
pub left-other : {A E : Type 0} (r : Result A E) (files : List File) (before after : Kept) (obeyed : Bool → Obeyed) (flag : Bool) (reply : Reply)
    → ◌≡◌ {A = Obeyed} (record { reply = reply; managed = after.managed }) (obeyed flag)
    → after.texts ≡ before.texts
    → after.origins ≡ before.origins
    → after.loaded ≡ before.loaded
    → OnErr r (LeavesAs files before after None obeyed)
left-other r files before after obeyed flag reply is texts origins loaded =
    at-err r (LeavesAs files before after None obeyed) (inr (flag, kept_by files before after None (obeyed flag) reply is texts origins loaded))

-- where an accepted change was kept so, it was kept with its own
own_by : (language : Language) (files : List File) (done : ℕ) (change : PolicyChange) (reply : Reply) (own : List Origin) (origins : List (List Origin))
    → (reply ≡ Done → own ≡ change_origins language files change)
    → kept_with done own reply origins ≡ kept_with done (change_origins language files change) reply origins
own_by language files done change Done own origins h = ap (λ o. kept_with done o Done origins) (h refl)
own_by language files done change Silent own origins h = refl
own_by language files done change (Refused refusal) own origins h = refl
own_by language files done change (Answered lines) own origins h = refl

-- How a command that makes a change came out, and what was kept of it: its reply, with where its profiles were read, the text of the change and how many
-- changes were done before it, over what there was room for.
pub record IsMade (files : List File) (before after : Kept) (change : PolicyChange) (obeyed : Bool → Obeyed) : Type 0 where
  pub flag : Bool
  pub reply : Reply
  pub own : List Origin
  pub done : ℕ
  pub text : List ℕ
  pub is : ◌≡◌ {A = Obeyed} (record { reply = reply; managed = after.managed }) (obeyed flag)
  pub loaded : reply ≡ Done → own ≡ change_origins before.managed.settings.language files change
  pub first : done ≡ depth before.managed
  pub named : text ≡ change_text change
  pub texts : after.texts ≡ kept_with done text reply before.texts
  pub origins : after.origins ≡ kept_with done own reply before.origins
  pub left_out : after.loaded ≡ before.loaded

texts_made : (files : List File) (before after : Kept) (change : PolicyChange) (obeyed : Bool → Obeyed) → (made : IsMade files before after change obeyed)
    → after.texts ≡ texts_behind (depth before.managed) (Some change) made.reply before.texts
texts_made files before after change obeyed made =
    subst (λ n. after.texts ≡ kept_with n (change_text change) made.reply before.texts) made.first
    (subst (λ t. after.texts ≡ kept_with made.done t made.reply before.texts) made.named made.texts)

kept_made : (files : List File) (before after : Kept) (change : PolicyChange) (obeyed : Bool → Obeyed) → (made : IsMade files before after change obeyed)
    → after ≡ kept_after files before (Some change) (obeyed made.flag)
kept_made files before after change obeyed made =
    kept_by files before after (Some change) (obeyed made.flag) made.reply made.is (texts_made files before after change obeyed made)
    (subst (λ n. after.origins ≡ kept_with n (change_origins before.managed.settings.language files change) made.reply before.origins) made.first
    (made.origins ∙ own_by before.managed.settings.language files made.done change made.reply made.own before.origins made.loaded)) made.left_out

-- a command that makes a change was obeyed
pub obeyed-change : {A E : Type 0} (r : Result A E) (files : List File) (base : List ℕ) (before after : Kept) (change : PolicyChange) (obeyed : Bool → Obeyed)
    → (old new : List ℕ) → (made : IsMade files before after change obeyed)
    → OnOk r (new ≡ old ++ reply_told after.managed.settings.language files base after.texts made.done made.done made.reply)
    → OnOk r (ObeysAs files base before after (Some change) obeyed old new)
obeyed-change r files base before after change obeyed old new made told =
    on-ok r (new ≡ old ++ reply_told after.managed.settings.language files base after.texts made.done made.done made.reply)
    (ObeysAs files base before after (Some change) obeyed old new)
    (λ put. (
      made.flag,
      kept_made files before after change obeyed made,
      told_by files base before after (Some change) (obeyed made.flag) made.reply old new made.is (texts_made files before after change obeyed made)
          (subst (λ n. new ≡ old ++ reply_told after.managed.settings.language files base after.texts n n made.reply) made.first put),
    )) told

-- also where memory ran out for what is told of it
pub left-change : {A E : Type 0} (r : Result A E) (files : List File) (before after : Kept) (change : PolicyChange) (obeyed : Bool → Obeyed)
    → IsMade files before after change obeyed
    → OnErr r (LeavesAs files before after (Some change) obeyed)
left-change r files before after change obeyed made =
    at-err r (LeavesAs files before after (Some change) obeyed) (inr (made.flag, kept_made files before after change obeyed made))

-- a command that makes a change is none that undoes some
no-undo : (command : Result (Option Command) Refusal) (change : PolicyChange) → change_in command ≡ Some change → undo_count command ≡ None
no-undo (Err refusal) change is = refl
no-undo (Ok None) change is = refl
no-undo (Ok (Some (Make own))) change is = refl
no-undo (Ok (Some (Undo count))) change is = absurd (cc)
no-undo (Ok (Some (Redo count))) change is = refl
no-undo (Ok (Some (Mark name))) change is = refl
no-undo (Ok (Some (Back name))) change is = refl
no-undo (Ok (Some (Ask question))) change is = refl
no-undo (Ok (Some Listed)) change is = refl
no-undo (Ok (Some (Show name))) change is = refl

none_above : (fits : Bool) → (fits && false) ≡ false
none_above true = refl
none_above false = refl

-- so its line is obeyed as the machine obeys it
pub change-obeyed : (files : List File) (loaded : ℕ) (managed : Managed) (line : List ℕ) (change : PolicyChange) (flag : Bool)
    → change_in (command_in line) ≡ Some change → line_outcome files managed line flag ≡ line_obeyed files loaded managed line flag
change-obeyed files loaded managed line change flag is =
    let none : undoes_more (undoable loaded managed) line ≡ false =
    ap (λ count. nat_le (length line) longest_line && is_above (undoable loaded managed) count) (no-undo (command_in line) change is)
    ∙ none_above (nat_le (length line) longest_line) in
    sym (ap (λ more. cond more (refused managed (plain NothingToUndo)) (line_outcome files managed line flag)) none)
