use Rattle.std.proofs.Common.{◌≡◌, ◌∙◌, ◌+◌, ◌++◌, ◌∷◌, ap, drop, sym, subst}
use Rattle.std.specs.Prelude.{map, string_bytes}
use Rattle.std.specs.List.{All}
use Rattle.std.proofs.lemmas.List.Elements.{All-nil, All-push}
use Rattle.std.proofs.lemmas.Result.{err_from_is_err_and}
use Rattle.aa_start.specs.Gathering.{names_of, IsTakable}
use Rattle.aa_start.specs.Names.{AreGoodNames}
use Rattle.aa_start.specs.Readable.{AreTakenSo, IsRefusalBehind, IsTakenSo}
use Rattle.aa_start.proofs.GatheringLemmas.{names_of-more, names_left-more}
use Rattle.aa_start.proofs.NameLemmas.{good-none, good-push}
use Rattle.aa_start.proofs.ReadableLemmas.{next_left, none-taken, taken-more}
use Rattle.aa_start.proofs.readable.gather_readable.Goals as goal

-- Nothing was taken before the first name.
pub loop-name-init : goal.loop-name-init
loop-name-init g c =
    let none = sym c.new-files.ensures in
    let known = g.D.FileSystem.known c.args.disk.now in
    let base = c.args.base.now in
    record {
      names = ap (λ files. names_of files ++ map string_bytes c.args.names.now) none;
      good = subst (λ files. AreGoodNames (names_of files)) none good-none;
      takable = subst (All IsTakable) none (All-nil IsTakable);
      read = none-taken known base c.new-files.result c.new-unread.result.items c.new-files.ensures c.new-unread.ensures.items;
    }

-- The name that is refused is the first of those that were left.
pub returns-in_err-take-clause-err : goal.returns-in_err-take-clause-err
returns-in_err-take-clause-err g c =
    let names = c.args.names.now in
    let i = c.loop-name.name-index in
    let name = c.name-item.result in
    let before = names_of c.loop-name.files in
    let p = err_from_is_err_and c.from_residual.result c.from_residual.ensures.1 in
    rw (p.1, p.2) (record {
      before = before;
      name = string_bytes name;
      behind = map string_bytes (drop (i + 1) names);
      stands = c.loop-name.invariant.names ∙ ap (λ left. before ++ left) (next_left string_bytes names i name c.loop-name-test.true c.name-item.is);
      good = c.loop-name.invariant.good;
      reported = subst (λ text. IsRefusalBehind before text c.in_err-take.field-0.0) c.as_str.ensures.value c.in_err-take.ensures.err;
    })

-- The file that was taken stands behind the others under its name, which is the first of those that were left.
pub loop-name-preserved : goal.loop-name-preserved
loop-name-preserved g c =
    let known = g.D.FileSystem.known c.args.disk.now in
    let base = c.args.base.now in
    let names = c.args.names.now in
    let i = c.loop-name.name-index in
    let name = c.name-item.result in
    let told = c.as_str.result.now in
    let text = c.as_str.ensures.value in
    let files = c.loop-name.files in
    let after = c.take.new.files in
    let taken = c.in_ok-take.ensures.ok in
    let more = c.loop-name.invariant in
    let stand = more.names ∙ ap (λ left. names_of files ++ left)
    (next_left string_bytes names i name c.loop-name-test.true c.name-item.is ∙ ap (λ own. own ∷ map string_bytes (drop (i + 1) names)) (sym text)) in
    record {
      names = names_left-more (map string_bytes names) files after told taken.0 _ taken.2 stand;
      good = subst AreGoodNames (sym (names_of-more files after told taken.0 taken.2)) (good-push (names_of files) told more.good c.in_ok-take.ensures.fits);
      takable = subst (All IsTakable) (sym taken.2) (All-push IsTakable files (told, taken.0) more.takable taken.4);
      read = rw (taken.2, taken.3) (taken-more known base files c.loop-name.unread.items (told, taken.0) taken.1 more.read taken.5);
    }
