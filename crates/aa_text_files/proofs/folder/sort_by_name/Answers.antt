use Rattle.std.proofs.Common.{rules}
use Rattle.std.proofs.lemmas.Fn.{always_returns_same}
use Rattle.aa_text_files.specs.Folder.{comes_before}
use Rattle.aa_text_files.proofs.FolderLemmas.{comes_before-cmp, comes_before-order}
use Rattle.aa_text_files.proofs.folder.sort_by_name.Goals as goal

pub returns-clause-sorted : goal.returns-clause-sorted
returns-clause-sorted c =
    c.in_ok-sort_by.ensures.sorted (comes_before c.args.files.now) (comes_before-order c.args.files.now)
    (always_returns_same _ _ _ (λ a r f' k. (comes_before-cmp c.args.files.now a.0.now a.1.0.now r (search rules), search rules)))

pub returns-clause-stable : goal.returns-clause-stable
returns-clause-stable c =
    c.in_ok-sort_by.ensures.stable (comes_before c.args.files.now) (comes_before-order c.args.files.now)
    (always_returns_same _ _ _ (λ a r f' k. (comes_before-cmp c.args.files.now a.0.now a.1.0.now r (search rules), search rules)))
