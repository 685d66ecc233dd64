use Rattle.std.proofs.Common.{ap, sym, ◌∙◌, ◌++◌, ◌∷◌, []}
use Rattle.aa_text_tokens.specs.Splicing.{of_members}
use Rattle.aa_text_files.specs.Files.{file_at}
use Rattle.aa_text_tokens.proofs.SplicingLemmas.{none-there, some-there, target-empty, target-file, target-folder}
use Rattle.aa_text_tokens.proofs.targets.target.Goals as goal

pub returns-then-is_empty : goal.returns-then-is_empty
returns-then-is_empty c = c.without.ensures ∙ sym (target-empty c.args.files.now c.args.name.now c.args.if_exists (none-there c.args.name.now c.if-is_empty.ensures))

pub returns-in_ok-push-in-Some : goal.returns-in_ok-push-in-Some
returns-in_ok-push-in-Some c =
    ap of_members (c.in_ok-push-in-Some.ensures.items ∙ ap (λ l. l ++ c.in-Some.file ∷ []) c.new-found.ensures.items)
    ∙ sym (target-file c.args.files.now c.args.name.now c.args.if_exists c.in-Some.file (some-there c.args.name.now c.if-is_empty.ensures) (c.in-Some.ensures ∙ ap (file_at c.args.files.now) c.looked_up.ensures))

pub returns-in_ok-found-in-None : goal.returns-in_ok-found-in-None
returns-in_ok-found-in-None c =
    rw c.looked_up-in-None.ensures at c.in_ok-found-in-None.ensures
    ∙ sym (target-folder c.args.files.now c.args.name.now c.args.if_exists (some-there c.args.name.now c.if-is_empty.ensures) (c.in-None.ensures ∙ ap (file_at c.args.files.now) c.looked_up.ensures))
