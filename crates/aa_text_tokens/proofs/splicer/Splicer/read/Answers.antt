use Rattle.std.proofs.lemmas.Result.{err_from_is_err_and}
use Rattle.std.proofs.Common.{map}
use Rattle.aa_text_tokens.specs.SeenTokens.{seen}
use Rattle.aa_text_tokens.specs.code.SplicingProgress.{fault_of, way}
use Rattle.aa_text_tokens.proofs.SplicingLemmas.{with_file-fault, with_file-read}
use Rattle.aa_text_tokens.proofs.splicer.Splicer.read.Goals as goal

pub returns-in_err-read-clause-refused : goal.returns-in_err-read-clause-refused
returns-in_err-read-clause-refused c =
    let p = err_from_is_err_and c.from_residual.result c.from_residual.ensures.1 in
    rw (p.1, p.2, ← c.self.view_is) (λ depth other. with_file-fault _ depth c.args.file c.args.place (fault_of c.in_err-read.field-0.0) (c.in_err-read.ensures.refused (way c.self.inside.files.now depth) other))

pub returns-clause-ok : goal.returns-clause-ok
returns-clause-ok c =
    rw (← c.self.view_is) (λ depth. with_file-read _ depth c.args.file c.args.place (map seen c.in_ok-read.read.items) c.in_ok-read.bytes (c.in_ok-read.ensures.ok (way c.self.inside.files.now depth)))
