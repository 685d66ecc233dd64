use Rattle.std.proofs.Common.{sym, ap, ◌≡◌, ◌∙◌, map, Ok, false}
use Rattle.std.specs.Prelude.{is_some}
use Rattle.std.proofs.lemmas.Result.{IfErr-weaker, on_ok_weaker}
use Rattle.aa_text_files.specs.declared.text_error.TextRefusal.TheVariants.{Memory}
use Rattle.aa_text_variables.specs.Variables.{is_defined}
use Rattle.aa_text_variables.specs.code.VariablesMap.{as_variable}
use Rattle.aa_text_variables.proofs.IndexLemmas.{named-from_none}
use Rattle.aa_text_variables.proofs.VariableLemmas.{after_define-at, after_define-new, variable-at}
use Rattle.aa_text_variables.proofs.variables.Variables.define.Goals as goal

pub returns-then-not-are_same-clause-refused : goal.returns-then-not-are_same-clause-refused
returns-then-not-are_same-clause-refused c =
    let variables = c.args.self.now in
    let there = variable-at c.self.inside.entries.items variables c.in-Some.index c.index.result.now c.self.view_is c.in-Some.ensures.within c.index.ensures in
    λ kept. rw c.plain.ensures (
    after_define-at variables c.args.name.now c.in-Some.index (as_variable c.index.result.now) (map (λ w. w.now) c.args.words.now) c.as_slice.result.now _ (sym c.in-Some.ensures.value) there c.as_slice.ensures c.if-not-are_same.ensures
    )

pub returns-else-not-are_same-clause-ok : goal.returns-else-not-are_same-clause-ok
returns-else-not-are_same-clause-ok c =
    let variables = c.args.self.now in
    let there = variable-at c.self.inside.entries.items variables c.in-Some.index c.index.result.now c.self.view_is c.in-Some.ensures.within c.index.ensures in
    after_define-at variables c.args.name.now c.in-Some.index (as_variable c.index.result.now) (map (λ w. w.now) c.args.words.now) c.as_slice.result.now _ (sym c.in-Some.ensures.value) there c.as_slice.ensures c.if-not-are_same.ensures

pub define_new-requires-clause-new : goal.define_new-requires-clause-new
define_new-requires-clause-new c = named-from_none c.args.self.now c.args.name.now (sym c.in-None.ensures.value)

pub returns-in-None-clause-ok : goal.returns-in-None-clause-ok
returns-in-None-clause-ok c =
    let none = named-from_none c.args.self.now c.args.name.now (sym c.in-None.ensures.value) in
    on_ok_weaker c.define_new.result (λ h. after_define-new c.args.self.now c.args.name.now (map (λ w. w.now) c.args.words.now) none ∙ ap Ok (sym h)) c.define_new.ensures.ok

pub returns-in-None-clause-memory : goal.returns-in-None-clause-memory
returns-in-None-clause-memory c =
    let none = named-from_none c.args.self.now c.args.name.now (sym c.in-None.ensures.value) in
    IfErr-weaker c.define_new.result (λ e. e.refusal ≡ Memory) (λ e. e.refusal ≡ Memory → is_defined c.args.name.now c.args.self.now ≡ false) (λ e memory other. ap is_some none) c.define_new.ensures.memory
