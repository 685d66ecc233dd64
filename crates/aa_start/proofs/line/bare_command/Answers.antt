use Rattle.std.proofs.Common.{◌≡◌, ap, ◌∙◌}
use Rattle.aa_start.specs.Lines.{with_last_option, without_own_name}
use Rattle.aa_start.proofs.line.bare_command.Goals as goal
use Rattle.clap.specs.Words.{app_of}
use Rattle.clap.specs.Simple.{app_of_fields, on_top}

-- What each builder says of its own setting, one after the other, is the command line.
pub returns : goal.returns
returns c =
    let bare : app_of c.no_binary_name.result ≡ on_top without_own_name (app_of c.new.result) = ap app_of_fields c.no_binary_name.ensures in
    let last : app_of c.args_override_self.result ≡ on_top with_last_option (app_of c.no_binary_name.result) = ap app_of_fields c.args_override_self.ensures in
    last ∙ ap (on_top with_last_option) (bare ∙ ap (on_top without_own_name) c.new.ensures.app)
