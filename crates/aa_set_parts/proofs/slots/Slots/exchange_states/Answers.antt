use Rattle.std.proofs.Common.{Option, None, Some, ap, ◌∙◌}
use Rattle.std.specs.List.{list_all}
use Rattle.std.specs.Option.{IfSome}
use Rattle.aa_decide_ready.proofs.SameLemmas.{same-index, same-names}
use Rattle.aa_set_parts.specs.Parts.{is_state}
use Rattle.aa_set_parts.proofs.slots.Slots.exchange_states.Goals as goal

if-some : {A : Type 0} (found : Option A) (P Q : A → Type 0) → ((x : A) → P x → Q x) → IfSome found P → IfSome found Q
if-some None P Q f h = h
if-some (Some x) P Q f h = f x h

pub invariant_of-self : goal.invariant_of-self
invariant_of-self c =
    let same = c.exchange_all.ensures.same (ap (list_all is_state) c.deref_mut.ensures.value ∙ c.requires.states) in (
      if-some c.self.inside.names _ _ (λ index is. same-names index c.self.inside.slots.items c.exchange_all.new.slots.items same is) c.self.invariant.0,
      if-some c.self.inside.attachments _ _ (λ index is. same-index index c.self.inside.slots.items c.exchange_all.new.slots.items same is) c.self.invariant.1,
      c.self.invariant.2,
    )
