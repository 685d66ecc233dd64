use Rattle.std.proofs.Common.{arith, subst, sym, ◌∙◌, ◌≡◌, None, length, List, ℕ, ◌∷◌, []}
use Rattle.std.proofs.lemmas.List.{length-append}
use Rattle.aa_glob.specs.Tree.{Ways, next, nothing}
use Rattle.aa_glob.specs.code.Noted.{NotesOthers}
use Rattle.aa_glob.proofs.TreeLemmas.{changed-by-order, noted-others, noted-other, more-behind, more-elsewhere}
use Rattle.aa_glob.proofs.tree.Tree.add.Goals as goal

pub returns-in_ok-insert-clause-ways : goal.returns-in_ok-insert-clause-ways
returns-in_ok-insert-clause-ways c =
    let old : Ways = (c.self.inside.on.items, c.self.inside.others.entries) in
    let free = subst (λ ways. next ways c.args.place c.args.number ≡ None) (sym c.self.view_is) c.requires.free in
    let count : c.in-Ok.added ≡ length c.self.inside.on.items = c.in-Ok.ensures.1 ∙ omega (arith, c.len.ensures) in
    let notes = subst (λ (on : List ℕ). NotesOthers on c.args.place c.note_others.new.on.items) c.in_ok-push.ensures.items c.note_others.ensures in
    rw (← c.self.view_is) (more-elsewhere old c.note_others.new.on.items c.insert.new.self.entries c.args.place c.args.number c.key.result c.in-Ok.added c.key.ensures count notes c.requires.number free (changed-by-order c.self.inside.others.entries c.insert.new.self.entries c.key.result c.in-Ok.added c.in_ok-insert.ensures.updates.0))

pub returns-then-index-clause-ways : goal.returns-then-index-clause-ways
returns-then-index-clause-ways c =
    let old : Ways = (c.self.inside.on.items, c.self.inside.others.entries) in
    let count : c.in-Ok.added ≡ length c.self.inside.on.items = c.in-Ok.ensures.1 ∙ omega (arith, c.len.ensures) in
    rw (← c.self.view_is) (more-behind old c.push.new.self.items c.args.place c.args.number c.index.result.now c.in_ok-push.ensures.items c.if-number.true (c.if-place-added.true ∙ count) (sym c.index.ensures ∙ c.if-index.true))

pub invariant_of-self-in_ok-insert : goal.invariant_of-self-in_ok-insert
invariant_of-self-in_ok-insert c =
    let notes = subst (λ (on : List ℕ). NotesOthers on c.args.place c.note_others.new.on.items) c.in_ok-push.ensures.items c.note_others.ensures in
    let count : c.in-Ok.added ≡ length c.self.inside.on.items = c.in-Ok.ensures.1 ∙ omega (arith, c.len.ensures) in (
      omega (arith, notes.count, length-append c.self.inside.on.items (nothing ∷ []), count, c.if-added.false, c.in-Ok.ensures.0, c.self.invariant.0),
      noted-other c.self.inside.on.items c.note_others.new.on.items c.self.inside.others.entries c.insert.new.self.entries c.args.place c.args.number c.key.result c.in-Ok.added c.self.invariant.1 notes c.key.ensures c.requires.number (changed-by-order c.self.inside.others.entries c.insert.new.self.entries c.key.result c.in-Ok.added c.in_ok-insert.ensures.updates.0),
    )

pub invariant_of-self-in_err-insert : goal.invariant_of-self-in_err-insert
invariant_of-self-in_err-insert c =
    let notes = subst (λ (on : List ℕ). NotesOthers on c.args.place c.note_others.new.on.items) c.in_ok-push.ensures.items c.note_others.ensures in
    let count : c.in-Ok.added ≡ length c.self.inside.on.items = c.in-Ok.ensures.1 ∙ omega (arith, c.len.ensures) in (
      omega (arith, notes.count, length-append c.self.inside.on.items (nothing ∷ []), count, c.if-added.false, c.in-Ok.ensures.0, c.self.invariant.0),
      rw c.in_err-insert.ensures.err (noted-others c.self.inside.on.items c.note_others.new.on.items c.self.inside.others.entries c.args.place c.self.invariant.1 notes),
    )
