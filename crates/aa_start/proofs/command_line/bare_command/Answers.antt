use Rattle.std.proofs.Common.{◌≡◌, ap, ◌∙◌}
use Rattle.aa_start.specs.Lines.{with_version}
use Rattle.aa_start.proofs.command_line.bare_command.Goals as goal
use Rattle.clap.specs.Words.{app_of}
use Rattle.clap.specs.Simple.{app_of_fields, on_top}

-- The program tells its version; what help says is no part of how words are read.
pub returns : goal.returns
returns c =
    let version : app_of c.version.result ≡ on_top with_version (app_of c.bare_command.result) = ap app_of_fields c.version.ensures in
    let about : app_of c.about.result ≡ app_of c.version.result = ap app_of_fields c.about.ensures in
    let after : app_of c.after_help.result ≡ app_of c.about.result = ap app_of_fields c.after_help.ensures in
    after ∙ about ∙ version ∙ ap (on_top with_version) c.bare_command.ensures
