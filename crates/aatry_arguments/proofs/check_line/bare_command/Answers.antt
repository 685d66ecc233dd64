use Rattle.std.proofs.Common.{◌≡◌, ap, ◌∙◌}
use Rattle.aatry_arguments.proofs.check_line.bare_command.Goals as goal
use Rattle.clap.specs.Words.{app_of}
use Rattle.clap.specs.Simple.{app_of_fields}

-- What help says is no part of how words are read.
pub returns : goal.returns
returns c =
    let about : app_of c.about.result ≡ app_of c.bare_command.result = ap app_of_fields c.about.ensures in
    let after : app_of c.after_help.result ≡ app_of c.about.result = ap app_of_fields c.after_help.ensures in
    after ∙ about ∙ c.bare_command.ensures
