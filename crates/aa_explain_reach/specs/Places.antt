-- Places that programs are started to go to, as the code holds them.
use Rattle.std.specs.Prelude.{ℕ, Bool, true, false, ◌&&◌, ◌==◌, Option, None, Some}
use Rattle.std.specs.Str.{bytes_eq}
use Rattle.aa_decide.specs.Exec.{Nowhere, Null, Stacked, Started, Unconfined, Under}
use Rattle.aa_decide_rules.specs.declared.exec_verdict.ExecTo.{ExecTo}
use Rattle.aa_decide_rules.specs.declared.exec_verdict.ExecTo.TheVariants as to
use Rattle.aa_decide_rules.specs.declared.exec_verdict.StackBase.{StackBase}
use Rattle.aa_decide_rules.specs.declared.exec_verdict.StackBase.TheVariants as base

-- a program is started
abbrev pub is_somewhere : Started → Bool
is_somewhere (Under entry child) = true
is_somewhere Unconfined = true
is_somewhere (Stacked base members) = true
is_somewhere Null = true
is_somewhere Nowhere = false

-- the same, as the code holds it
abbrev pub leads_somewhere : ExecTo → Bool
leads_somewhere (to.Profile slot child) = true
leads_somewhere to.Unconfined = true
leads_somewhere (to.Stack base members) = true
leads_somewhere to.Null = true
leads_somewhere to.Nowhere = false

-- the same place of a child or hat, or none
abbrev pub same_child : Option ℕ → Option ℕ → Bool
same_child None None = true
same_child (Some place) (Some other) = place == other
same_child None (Some other) = false
same_child (Some place) None = false

-- stacks are on the same
abbrev pub same_base : StackBase → StackBase → Bool
same_base (base.Profile slot child) (base.Profile other place) = slot == other && same_child child place
same_base base.Unconfined base.Unconfined = true
same_base (base.Profile slot child) base.Unconfined = false
same_base base.Unconfined (base.Profile other place) = false

-- or neither is on anything
abbrev pub same_stand : Option StackBase → Option StackBase → Bool
same_stand None None = true
same_stand (Some base) (Some other) = same_base base other
same_stand None (Some other) = false
same_stand (Some base) None = false

-- The same place to go: the same slot, and the same child or hat; no profile in both; a stack on the same, of the same
-- full names; or one of the others.
abbrev pub same_to : ExecTo → ExecTo → Bool
same_to (to.Profile slot child) (to.Profile other place) = slot == other && same_child child place
same_to to.Unconfined to.Unconfined = true
same_to (to.Stack base members) (to.Stack other names) = same_stand base other && bytes_eq members.now names.now
same_to to.Null to.Null = true
same_to to.Nowhere to.Nowhere = true
same_to _ _ = false
