use Rattle.std.proofs.Common.{Some, sym, ap, ◌∙◌}
use Rattle.std.specs.Prelude.{option_map}
use Rattle.aa_text_files.specs.Files.{bytes_at, index_from}
use Rattle.aa_text_files.proofs.FilesLemmas.{file_named-at}
use Rattle.aa_text_files.proofs.files.Files.bytes.Goals as goal

pub returns-in-Some : goal.returns-in-Some
returns-in-Some c =
    let place = c.in-Some.ensures ∙ c.self.invariant.1 c.args.name.now ∙ ap (index_from 0 c.args.name.now) c.self.view_is in
    rw (← c.if-is_folder.ensures) (ap Some c.bytes_at.ensures ∙ ap (option_map (bytes_at c.args.self.now)) place ∙ sym (file_named-at c.args.name.now c.args.self.now))

pub returns-in-None : goal.returns-in-None
returns-in-None c =
    let place = c.in-None.ensures ∙ c.self.invariant.1 c.args.name.now ∙ ap (index_from 0 c.args.name.now) c.self.view_is in
    rw (← c.if-is_folder.ensures) (ap (option_map (bytes_at c.args.self.now)) place ∙ sym (file_named-at c.args.name.now c.args.self.now))
