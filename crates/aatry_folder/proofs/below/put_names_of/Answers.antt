use Rattle.std.proofs.Common.{◌≡◌, ◌+◌, length, vec_len, subst, ◌∙◌, arith}
use Rattle.std.specs.Prelude.{string_bytes}
use Rattle.std.proofs.lemmas.List.{length-map}
use Rattle.std.proofs.lemmas.Result.{MatchResult-weaker}
use Rattle.aatry_folder.specs.Members.{texts_of}
use Rattle.aatry_folder.specs.code.Step.{ComeOf, name_at}
use Rattle.aatry_folder.proofs.StepLemmas.{IsFaultBehind-more, name_at-read}
use Rattle.aatry_folder.proofs.below.put_names_of.Goals as goal

-- The names that come of the one at the place are too many behind the others.
pub returns-clause-err : goal.returns-clause-err
returns-clause-err g c =
    let told = g.F.Folders.told c.args.folders.now in
    let base = c.args.base.now in
    let names = texts_of c.args.names.now in
    let more = texts_of c.in_ok-more.more in
    let name = name_at names c.args.at in
    let read : c.as_str.result.now ≡ name =
    c.as_str.ensures.value ∙ name_at-read c.args.names.now.items c.args.at c.index.result.now (omega arith) c.index.ensures in
    let come : ComeOf told base name more = subst (λ name. ComeOf told base name more) read c.in_ok-more.ensures.ok in
    let count = vec_len c.args.names.now + vec_len c.in_ok-more.more in
    let counted : count ≡ length names + length more =
    omega (arith, length-map c.args.names.now.items string_bytes, length-map c.in_ok-more.more.items string_bytes) in
    MatchResult-weaker c.put_behind.result c.put_behind.ensures.err (λ _ h. h)
    (λ fault h. IsFaultBehind-more told base names more name count fault come counted h)
