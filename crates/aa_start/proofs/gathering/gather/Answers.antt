use Rattle.std.proofs.Common.{◌≡◌, ◌++◌, ap, sym, subst, ◌∙◌}
use Rattle.std.specs.Prelude.{map, string_bytes}
use Rattle.std.specs.List.{All}
use Rattle.std.specs.Vec.Iter.{into_iter_items}
use Rattle.std.proofs.lemmas.List.Elements.{All-nil, All-push}
use Rattle.aa_start.specs.Gathering.{names_of, IsReadBelow, IsTakable, texts_of}
use Rattle.aa_start.specs.Names.{AreGoodNames}
use Rattle.aa_start.proofs.GatheringLemmas.{names_of-more, names_left-more}
use Rattle.aa_start.proofs.NameLemmas.{good-none, good-push}
use Rattle.aa_start.proofs.gathering.gather.Goals as goal

-- Nothing was taken before the first name.
pub loop-name-init : goal.loop-name-init
loop-name-init g c =
    let none = sym c.new-files.ensures in
    let items = into_iter_items c.into_iter-name-iterator.result in
    let all : items ≡ c.args.names.items = c.into_iter-name-iterator.ensures.into_iter_gives.0 in
    record {
      names = ap (map string_bytes) (sym all) ∙ ap (λ files. names_of files ++ map string_bytes items) none;
      good = subst (λ files. AreGoodNames (names_of files)) none good-none;
      takable = subst (All IsTakable) none (All-nil IsTakable);
      read = let IsRead = IsReadBelow (g.D.FileSystem.known c.args.disk.now) c.args.base.now in subst (All IsRead) none (All-nil IsRead);
    }

-- The file that was taken stands behind the others under its name, which is the first of those that were left.
pub loop-name-preserved : goal.loop-name-preserved
loop-name-preserved g c =
    let name = string_bytes c.in-Some.name in
    let files = c.loop-name.files in
    let taken = c.in_ok-take.ensures.ok in
    record {
      names = names_left-more (texts_of c.args.names) files c.take.new.files name taken.0 _ taken.1
          (c.loop-name.invariant.names ∙ ap (λ items. names_of files ++ map string_bytes items) c.in-Some.ensures.steps.0);
      good = subst AreGoodNames (sym (names_of-more files c.take.new.files name taken.0 taken.1)) (good-push (names_of files) name c.loop-name.invariant.good c.in_ok-take.ensures.fits);
      takable = subst (All IsTakable) (sym taken.1) (All-push IsTakable files (name, taken.0) c.loop-name.invariant.takable taken.2);
      read = let IsRead = IsReadBelow (g.D.FileSystem.known c.args.disk.now) c.args.base.now in
          subst (All IsRead) (sym taken.1) (All-push IsRead files (name, taken.0) c.loop-name.invariant.read taken.3);
    }
