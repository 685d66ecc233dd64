use Rattle.std.proofs.Common.{◌≡◌, ◌++◌, ◌∷◌, [], ap, length, map, refl, subst, sym, ◌∙◌}
use Rattle.std.specs.Prelude.{None}
use Rattle.std.proofs.lemmas.List.{length-map}
use Rattle.aa_text_variables.specs.Variables.{Variable, are_variables}
use Rattle.aa_text_variables.specs.code.VariableIndexes.{index_of}
use Rattle.aa_text_variables.specs.code.VariablesMap.{ArePlaced, as_variable, as_variables}
use Rattle.aa_text_variables.proofs.AreVariablesLemmas.{are_variables-push}
use Rattle.aa_text_variables.proofs.VariableLemmas.{as_variables-push, index-from_none}
use Rattle.aa_text_variables.proofs.variables.Variables.define_new.Goals as goal

pub invariant_of-self-in-Ok : goal.invariant_of-self-in-Ok
invariant_of-self-in-Ok c =
    let entries = c.self.inside.entries.items in
    let words = map (λ w. w.now) c.args.words.now in
    let more : Variable = record { name = c.args.name.now; defined = words; added = [] } in
    let done : as_variables c.push.new.self.items ≡ as_variables entries ++ more ∷ [] =
    ap as_variables c.in_ok-push.ensures.items ∙ as_variables-push entries c.in_ok-entry.entry.0 c.in_ok-entry.entry.1
    ∙ ap (λ variable. as_variables entries ++ variable ∷ []) c.in_ok-entry.ensures
    in
    let none : index_of (as_variables entries) c.args.name.now ≡ None =
    ap (λ variables. index_of variables c.args.name.now) c.self.view_is ∙ index-from_none c.args.self.now c.args.name.now c.requires.new
    in
    let place : c.len-place.result ≡ length (as_variables entries) = c.len-place.ensures ∙ c.self.inside.entries.ok.0 ∙ sym (length-map entries as_variable) in
    record {
      variables = rw (done, c.self.view_is) (are_variables-push c.args.self.now c.args.name.now words (ap are_variables (sym c.self.view_is) ∙ c.self.invariant.variables) c.requires.new (rw length-map c.requires.some));
      placed = subst (λ variables. ArePlaced variables c.put.new.places.entries) (sym done)
          (c.in-Ok.ensures.ok (as_variables entries) more c.self.invariant.placed refl none place);
    }
