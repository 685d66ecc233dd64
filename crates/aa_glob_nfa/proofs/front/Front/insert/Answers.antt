use Rattle.std.proofs.Common.{rules, ◌≡◌, ◌<◌, ◌∙◌, ◌==◌, ◌||◌, false, [], length, arith, ap, inl, inr, subst, sym}
use Rattle.std.proofs.lemmas.Bool.{eqb-false}
use Rattle.std.proofs.lemmas.List.{with_items_is}
use Rattle.aa_bytes.specs.Bits.{has_bit}
use Rattle.aa_glob_nfa.specs.Fronts.{is_in}
use Rattle.aa_glob_nfa.specs.code.Marks.{AreMarked}
use Rattle.aa_glob_nfa.proofs.FrontLemmas.{AreMarked-push, IsFront-push}
use Rattle.aa_glob_nfa.proofs.front.Front.insert.Goals as goal

pub invariant_of-self-then-not-is_empty : goal.invariant_of-self-then-not-is_empty
invariant_of-self-then-not-is_empty c =
    let front = c.self.inside in
    let low : c.args.state < front.room = omega (arith, ap (λ f. f.room) c.self.view_is) in
    let none : is_in c.args.state front.states.items ≡ false = search rules in
    let len : length c.set_bit.new.words ≡ front.members.len = omega (arith, c.set_bit.auto.words, c.deref_mut.ensures.len, front.members.ok.0) in
    let back = with_items_is front.members c.set_bit.new.words len in
    rw (back, c.in_ok-push.ensures.items)
    (IsFront-push c.args.state front.room front.states.items front.members.items c.set_bit.new.words c.self.invariant low none
    (elim c.self.invariant.marked [
      | inl empty ↦ absurd (omega (arith, front.members.ok.0, ap length empty, eqb-false front.members.len 0 (sym c.is_empty.ensures ∙ c.if-not-is_empty.true)))
      | inr marked ↦ inr (AreMarked-push c.args.state front.room front.states.items front.members.items c.set_bit.new.words marked
          (λ x. c.set_bit.ensures x ∙ ap (λ m. x == c.args.state || has_bit m x) c.deref_mut.ensures.value)
          (omega (arith, c.set_bit.auto.words, ap length c.deref_mut.ensures.value)))
    ]))

pub invariant_of-self-in_err-self-inside : goal.invariant_of-self-in_err-self-inside
invariant_of-self-in_err-self-inside c =
    let front = c.self.inside in
    let low : c.args.state < front.room = omega (arith, ap (λ f. f.room) c.self.view_is) in
    let none : is_in c.args.state front.states.items ≡ false = search rules in
    let empty : front.members.items ≡ [] = search rules in
    rw c.in_ok-push.ensures.items
    (IsFront-push c.args.state front.room front.states.items front.members.items front.members.items c.self.invariant low none (inl empty))

pub invariant_of-self-then-len-gt-FEW : goal.invariant_of-self-then-len-gt-FEW
invariant_of-self-then-len-gt-FEW c =
    let front = c.self.inside in
    let low : c.args.state < front.room = omega (arith, ap (λ f. f.room) c.self.view_is) in
    let none : is_in c.args.state front.states.items ≡ false = search rules in
    rw c.in_ok-push.ensures.items
    (IsFront-push c.args.state front.room front.states.items front.members.items c.in_ok-self-inside.field-0.items c.self.invariant low none (inr
    (subst (λ states. AreMarked states front.room c.in_ok-self-inside.field-0.items) (c.deref.ensures.value ∙ c.in_ok-push.ensures.items) c.in_ok-self-inside.ensures)))

pub invariant_of-self-else-len-gt-FEW : goal.invariant_of-self-else-len-gt-FEW
invariant_of-self-else-len-gt-FEW c =
    let front = c.self.inside in
    let low : c.args.state < front.room = omega (arith, ap (λ f. f.room) c.self.view_is) in
    let none : is_in c.args.state front.states.items ≡ false = search rules in
    let empty : front.members.items ≡ [] = search rules in
    rw c.in_ok-push.ensures.items
    (IsFront-push c.args.state front.room front.states.items front.members.items front.members.items c.self.invariant low none (inl empty))
