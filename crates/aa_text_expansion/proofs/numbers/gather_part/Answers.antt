use Rattle.std.proofs.Common.{◌≡◌, ◌∙◌, ap, sym, refl, rules}
use Rattle.std.specs.Prelude.{None, Some}
use Rattle.std.proofs.lemmas.Fn.{says_at}
use Rattle.aa_text_expansion.specs.Numbers.{numbers_of, with_indexes}
use Rattle.aa_text_expansion.proofs.NumberLemmas.{numbers_of-bytes}
use Rattle.aa_text_expansion.proofs.numbers.gather_part.Goals as goal

pub returns-in-Text : goal.returns-in-Text
returns-in-Text g c = λ index answers. rw c.in-Text.is (ap (with_indexes c.args.gathered.now.keys) (sym (numbers_of-bytes index c.in-Text.field-0.now)))

pub returns-in_ok-insert : goal.returns-in_ok-insert
returns-in_ok-insert g c = λ index answers.
    let found : index c.in-Name.name.now ≡ Some c.in-Some.index = sym (answers c.in-Name.name.now c.number.result (says_at g.F.Fn c.number.ensures refl)) ∙ c.in-Some.is in
    rw (c.in-Name.is, numbers_of, found) (search rules)

pub returns-in_default : goal.returns-in_default
returns-in_default g c = λ index answers.
    let none : index c.in-Name.name.now ≡ None = sym (answers c.in-Name.name.now c.number.result (says_at g.F.Fn c.number.ensures refl)) ∙ c.in_default.is in
    rw (c.in-Name.is, numbers_of, none) refl
