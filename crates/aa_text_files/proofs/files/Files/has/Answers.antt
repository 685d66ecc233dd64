use Rattle.std.proofs.Common.{sym, ap, ◌∙◌}
use Rattle.std.specs.Prelude.{is_some}
use Rattle.aa_text_files.proofs.FilesLemmas.{has_file-at}
use Rattle.aa_text_files.proofs.files.Files.has.Goals as goal

pub returns : goal.returns
returns c = rw (← c.self.view_is) (c.is_some.ensures ∙ ap is_some (c.get.ensures ∙ c.self.invariant.1 c.args.name.now) ∙ sym (has_file-at c.args.name.now _))
