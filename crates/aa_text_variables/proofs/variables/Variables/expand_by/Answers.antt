use Rattle.std.proofs.Common.{◌≡◌, ◌<◌, ◌∙◌, ap, sym, take, length, arith, None}
use Rattle.std.proofs.lemmas.List.{length-map}
use Rattle.aa_text_expansion.specs.Joining.{cut_off, most_kept, texts_of}
use Rattle.aa_text_variables.specs.Expansions.{expansion_refusal, expansions}
use Rattle.aa_text_variables.proofs.HeldLemmas.{empty-table}
use Rattle.aa_text_variables.proofs.SomeExpansionLaws.{some-expansion}
use Rattle.aa_text_variables.proofs.variables.Variables.expand_by.Goals as goal

pub returns-in-Ok-Some-clause-some : goal.returns-in-Ok-Some-clause-some
returns-in-Ok-Some-clause-some c =
    let all = expansions c.args.self.now c.args.text.now in
    let texts = c.in-Ok-Some.texts.items in
    let same : texts_of c.in-Ok-Some.texts ≡ cut_off all = rw c.in-Ok-Some.field-0-is at c.in-Ok-Some.ensures.texts in
    let fine : expansion_refusal c.args.self.now c.args.text.now ≡ None = rw c.in-Ok-Some.field-0-is at c.in-Ok-Some.ensures.fine in
    let size : length texts ≡ length all = sym (length-map texts (λ t. t.items)) ∙ ap length same ∙ length-map all (take most_kept) in
    let some : 0 < length all = some-expansion c.args.self.now c.args.text.now c.lawful.ensures fine in
    omega arith

pub returns-in-Err-clause-rows : goal.returns-in-Err-clause-rows
returns-in-Err-clause-rows c =
    let rows = c.clear.new.self in
    empty-table c.args.self.now rows.order.keys rows.counts.items rows.numbers.items rows.lists c.clear.ensures.order c.clear.ensures.counts c.clear.ensures.numbers
