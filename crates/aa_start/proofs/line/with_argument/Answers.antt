use Rattle.std.proofs.Common.{rules}
use Rattle.std.proofs.lemmas.Result.{IfOk-weaker}
use Rattle.aa_start.proofs.line.with_argument.Goals as goal

-- The builder says of an argument that isn't global what the command line is with it.
pub returns : goal.returns
returns c = IfOk-weaker c.arg.result _ _ (λ command added. added.shape (search rules)) c.arg.ensures
