-- Parts that answer alike.
use Rattle.std.specs.Prelude.{◌≡◌, ◌<◌, ℕ, Bool, false, true, List, Contains}
use Rattle.aa_decide_rules.specs.Verdict.{verdict}
use Rattle.aa_decide_rules.specs.declared.judgement.Mediation.{Mediation}
use Rattle.aa_explain_changes.specs.Changes.{change_of as change_of_letter, is_change}
use Rattle.aa_explain_changes.specs.Sides.{Sides}
use Rattle.aa_explain_changes.specs.declared.change.Change.TheVariants.{Same}
use Rattle.aa_explain_paths.specs.Claims.{single_letters}
use Rattle.aa_explain_paths.specs.Meant.{may_be_asked}
use Rattle.aa_explain_start_changes.specs.Laws.{StartAlike}
use Rattle.aa_explain_start_changes.specs.Starters.{Starters}
use Rattle.aa_glob_nfa.specs.Graphs.{AreBytes}
use Rattle.aa_profile_data.specs.Access.{all_letters}
use Rattle.aa_profile_data.specs.Request.{ForFile}
use Rattle.aatry_path_changes.specs.Finding.{Both, IsOfBoth, sides_of}
use Rattle.aatry_path_changes.specs.Kinds.{is_same, kind_of_both}
use Rattle.aatry_path_changes.specs.Others.{answers_of, change_of, request_of}
use Rattle.aatry_path_changes.specs.Starts.{Policies, starters_named}
use Rattle.aatry_path_changes.specs.declared.others.Other.TheVariants.{Capability, Sockets}
use Rattle.aatry_policy.specs.Parts.{Part}

-- both sides say the same of any letters of a file, in whatever mode: one verdict, with tag and mask
abbrev pub SayTheSame : Sides → List ℕ → Bool → Type 0
SayTheSame sides path owned =
    (mediation : Mediation) (letters : ℕ) → letters < all_letters
    → verdict mediation sides.old.audit sides.old.rules (ForFile letters owned path) ≡ verdict mediation sides.new.audit sides.new.rules (ForFile letters owned path)

-- Two parts are in one mode, or both disabled; and by their rules, where these are asked, no answer changes: to no letter of a path that the kernel may ask
-- about, of a file of the task's user or of another's, so, where it matters how answers are logged, to no letters of it together, in whatever mode; to no
-- capability; and to sockets of no domain and type. And each program is started to a place of the same name, alike scrubbed, or by neither.
pub record AnswerAlike (quiet : Bool) (starters : Starters) (part other : Part) : Type 0 where
  pub mode : part.section.mode ≡ other.section.mode
  pub files : (path : List ℕ) (owned : Bool) (letter : ℕ)
      → AreBytes path → may_be_asked path ≡ true → Contains single_letters letter → change_of_letter (sides_of quiet part other) path owned letter ≡ Same
  pub together : (path : List ℕ) (owned : Bool) → AreBytes path → may_be_asked path ≡ true → quiet ≡ false → SayTheSame (sides_of quiet part other) path owned
  pub capabilities : (number : ℕ) → number < 41 → is_change (change_of quiet (answers_of (sides_of quiet part other) (request_of (Capability number)))) ≡ false
  pub sockets : (domain kind : ℕ) → domain < 44 → kind < 6
      → is_change (change_of quiet (answers_of (sides_of quiet part other) (request_of (Sockets domain kind)))) ≡ false
  pub starts : StartAlike starters

-- where nothing is told of parts that both folders have, they answer alike
abbrev pub SameAnswerAlike : Type 0
SameAnswerAlike =
    (quiet : Bool) (limit : ℕ) (policies : Policies) (part other : Part) (both : Both)
    → IsOfBoth quiet limit policies part other both → is_same (kind_of_both both) ≡ true → AnswerAlike quiet (starters_named policies part.name) part other
