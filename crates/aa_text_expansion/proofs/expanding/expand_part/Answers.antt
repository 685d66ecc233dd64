use Rattle.std.proofs.Common.{◌≡◌, sym, ◌∙◌}
use Rattle.std.specs.Prelude.{Some}
use Rattle.aa_text_expansion.specs.Expanding.{held}
use Rattle.aa_text_expansion.specs.Lists.{list_at}
use Rattle.aa_text_expansion.proofs.ChoiceLemmas.{choices-bytes}
use Rattle.aa_text_expansion.proofs.JoiningLemmas.{joined-nil}
use Rattle.aa_text_expansion.proofs.ListLemmas.{made-already}
use Rattle.aa_text_expansion.proofs.expanding.expand_part.Goals as goal

pub returns-in-Text : goal.returns-in-Text
returns-in-Text g c =
    let values = held c.args.lists.now (g.V.Values.numbers c.args.values.now) in
    rw (c.in-Text.is, choices-bytes values c.in-Text.bytes.now) c.text.ensures.made

pub returns-in-Some : goal.returns-in-Some
returns-in-Some g c =
    let lists = c.args.lists.now in
    let numbers = g.V.Values.numbers c.args.values.now in
    let name = c.in-Name.name.now in
    let has : numbers name ≡ Some c.in-Some.number = sym c.list_of.ensures ∙ c.in-Some.is in
    rw c.in-Name.is (
    made-already lists c.in-Some.number _ (c.requires name c.in-Some.number has) (rw (held, has) (sym (joined-nil (list_at lists c.in-Some.number))))
    )
