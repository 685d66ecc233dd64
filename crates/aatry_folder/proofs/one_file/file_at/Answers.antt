use Rattle.std.proofs.Common.{◌≡◌, ◌∙◌, ap, codes, false, string_bytes, subst, sym}
use Rattle.std.proofs.lemmas.Result.{err_from_is_err_and}
use Rattle.aa_text_files.specs.Files.{is_folder_name}
use Rattle.aa_start.specs.Gathering.{IsFirstFault, IsReadBelow}
use Rattle.aatry_folder.proofs.UnreadLemmas.{of_file}
use Rattle.aatry_folder.proofs.OneFileLemmas.{one_file}
use Rattle.aatry_folder.proofs.one_file.file_at.Goals as goal

-- Its one name can't be taken.
pub returns-in_err-gather-clause-fault : goal.returns-in_err-gather-clause-fault
returns-in_err-gather-clause-fault g c =
    let p = err_from_is_err_and c.from_residual-in_err-gather.result c.from_residual-in_err-gather.ensures.1 in
    let known = g.D.FileSystem.known c.args.disk.now in
    rw (p.1, p.2) (of_file known (string_bytes c.args.path) c.in_err-gather.field-0.0
    (subst (λ names. IsFirstFault known (codes ".") names c.in_err-gather.field-0.0) c.in_ok-paths.ensures c.in_err-gather.ensures.err))

-- One name leads to one file.
pub returns-clause-found : goal.returns-clause-found
returns-clause-found g c =
    let IsRead = IsReadBelow (g.D.FileSystem.known c.args.disk.now) (codes ".") in
    let found = one_file IsRead c.in_ok-gather.field-0 (string_bytes c.args.path) (c.in_ok-gather.ensures.names ∙ c.in_ok-paths.ensures) c.in_ok-gather.ensures.read in
    let plain : is_folder_name (string_bytes c.args.path) ≡ false =
    ap is_folder_name (sym c.as_bytes.ensures.value) ∙ sym c.is_folder.ensures ∙ c.if-is_folder.false in
    (found.0, found.1, plain, found.2)
