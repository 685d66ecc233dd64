use Rattle.std.proofs.Common.{◌≡◌, ◌<◌, ◌++◌, ap, length, map, refl, subst, sym, ◌∙◌}
use Rattle.std.proofs.lemmas.List.{map-set}
use Rattle.std.proofs.lemmas.Result.{err_from_is_err_and}
use Rattle.aa_text_variables.specs.Variables.{Variable, are_variables}
use Rattle.aa_text_variables.specs.code.VariablesMap.{ArePlaced, as_variable, as_variables}
use Rattle.aa_text_variables.proofs.AreVariablesLemmas.{are_variables-added}
use Rattle.aa_text_variables.proofs.VariableLemmas.{after_append-at, after_append-none, is_defined-at, placed-set, variable-at}
use Rattle.aa_text_variables.proofs.variables.Variables.append.Goals as goal

pub returns-in_default-clause-refused : goal.returns-in_default-clause-refused
returns-in_default-clause-refused c =
    λ kept. rw c.plain.ensures (after_append-none c.args.self.now c.args.name.now (map (λ w. w.now) c.args.words.now) (sym c.in_default.ensures.value))

pub returns-in_err-more-clause-memory : goal.returns-in_err-more-clause-memory
returns-in_err-more-clause-memory c =
    let p = err_from_is_err_and c.from_residual.result c.from_residual.ensures.1 in
    rw p.1 (λ memory. is_defined-at c.args.self.now c.args.name.now c.in-Some.index (sym c.in-Some.ensures.value))

pub returns-in_err-append-clause-memory : goal.returns-in_err-append-clause-memory
returns-in_err-append-clause-memory c =
    let p = err_from_is_err_and c.from_residual-in_err-append.result c.from_residual-in_err-append.ensures.1 in
    rw p.1 (λ memory. is_defined-at c.args.self.now c.args.name.now c.in-Some.index (sym c.in-Some.ensures.value))

pub returns-clause-ok : goal.returns-clause-ok
returns-clause-ok c =
    let entries = c.self.inside.entries.items in
    let entry = c.index_mut.result.now in
    let words = map (λ w. w.now) c.args.words.now in
    let there = variable-at entries c.args.self.now c.in-Some.index entry c.self.view_is c.in-Some.ensures.within c.index_mut.ensures.value in
    let added : c.append.new.self ≡ entry.1.added ++ words = c.in_ok-append.ensures.ok ∙ ap (λ more. entry.1.added ++ more) c.in_ok-more.ensures in
    after_append-at c.args.self.now _ c.args.name.now words c.in-Some.index (as_variable entry) (sym c.in-Some.ensures.value) there
    (map-set as_variable entries c.in-Some.index _ ∙ rw (c.self.view_is, added) refl)

pub invariant_of-self-2 : goal.invariant_of-self-2
invariant_of-self-2 c =
    let entries = c.self.inside.entries.items in
    let entry = c.index_mut.result.now in
    let words = map (λ w. w.now) c.args.words.now in
    let other : Variable = record { name = entry.0.items; defined = entry.1.defined; added = c.append.new.self } in
    let there = variable-at entries (as_variables entries) c.in-Some.index entry refl (subst (λ variables. c.in-Some.index < length variables) (sym c.self.view_is) c.in-Some.ensures.within) c.index_mut.ensures.value in
    record {
      variables = are_variables-added c.args.name.now words c.args.self.now _ (ap are_variables (sym c.self.view_is) ∙ c.self.invariant.variables) (returns-clause-ok c);
      placed = subst (λ variables. ArePlaced variables c.self.inside.places.entries) (sym (map-set as_variable entries c.in-Some.index _))
          (placed-set (as_variables entries) c.self.inside.places.entries c.in-Some.index (as_variable entry) other there refl c.self.invariant.placed);
    }
