use Rattle.std.proofs.Common.{◌∙◌, refl}
use Rattle.std.proofs.lemmas.Fn.{says_at}
use Rattle.aa_text_expansion.proofs.MissingLemmas.{bytes-there, name-missing}
use Rattle.aa_text_expansion.proofs.missing.is_missing.Goals as goal

pub returns-in-Text : goal.returns-in-Text
returns-in-Text g c = λ test answers. rw c.in-Text.is (bytes-there test c.in-Text.field-0.now)

pub returns-in-Name : goal.returns-in-Name
returns-in-Name g c = λ test answers. rw c.in-Name.is (answers c.in-Name.name.now c.missing.result (says_at g.F.Fn c.missing.ensures refl) ∙ name-missing test c.in-Name.name.now)
