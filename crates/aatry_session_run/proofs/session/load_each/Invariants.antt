use Rattle.std.proofs.Common.{◌≡◌, ◌++◌, ℕ, List, map, take}
use Rattle.aatry_folder.specs.Loadings.{seen_top}
use Rattle.aatry_session_run.specs.Session.{LoadsEach}
use Rattle.aatry_session_run.proofs.session.load_each.Given as goal

-- the files so far are loaded, and what stands behind the text tells of each
abbrev pub invariant-loop-file : goal.invariant-loop-file
invariant-loop-file l =
    (lines : List ℕ) × (l.out.items ≡ l.initial.out.items ++ lines)
    × LoadsEach l.language l.files l.base l.initial.session (map seen_top (take l.file-index l.top)) l.session lines
