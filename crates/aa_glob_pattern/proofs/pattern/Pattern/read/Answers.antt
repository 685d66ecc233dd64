use Rattle.std.proofs.Common.{◌≡◌, Ok}
use Rattle.aa_glob_syntax.specs.Reading.{items_of, reading}
use Rattle.aa_glob_pattern.proofs.ErrorLemmas.{err_anyway}
use Rattle.aa_glob_pattern.proofs.pattern.Pattern.read.Goals as goal

-- memory runs out only once the text was read
pub returns-in_err-text-clause-memory : goal.returns-in_err-text-clause-memory
returns-in_err-text-clause-memory c =
    let text = c.args.text.now in
    err_anyway c.from_residual-in_err-text.result (reading text ≡ Ok (items_of text)) c.in_ok-facts.ensures.reads
