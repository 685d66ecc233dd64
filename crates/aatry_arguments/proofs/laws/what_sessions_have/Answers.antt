use Rattle.std.proofs.Common.{[], ◌∷◌, refl}
use Rattle.aatry_arguments.specs.Arguments.{ForSession}
use Rattle.aatry_arguments.specs.CheckWords.{check_with}
use Rattle.aatry_arguments.specs.SessionWords.{session_of}
use Rattle.aatry_arguments.proofs.AskedLemmas.{asked_of_check}
use Rattle.aatry_arguments.proofs.laws.what_sessions_have.Goals as goal

pub returns-clause-alone : goal.returns-clause-alone
returns-clause-alone c = refl

pub returns-clause-over : goal.returns-clause-over
returns-clause-over c words base asks = asked_of_check ForSession session_of words (check_with base []) asks

pub returns-clause-some : goal.returns-clause-some
returns-clause-some c words base name names asks = asked_of_check ForSession session_of words (check_with base (name ∷ names)) asks
