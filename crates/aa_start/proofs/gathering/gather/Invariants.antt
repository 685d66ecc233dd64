use Rattle.std.proofs.Common.{◌≡◌, ◌++◌}
use Rattle.std.specs.Prelude.{map, string_bytes}
use Rattle.std.specs.List.{All}
use Rattle.std.specs.Vec.Iter.{into_iter_items}
use Rattle.aa_start.specs.Gathering.{names_of, texts_of, IsReadBelow, IsTakable}
use Rattle.aa_start.specs.Names.{AreGoodNames}
use Rattle.aa_start.proofs.gathering.gather.Given as goal

-- the names of the files that were taken, and behind them those that are left
abbrev pub invariant-loop-name : goal.invariant-loop-name
invariant-loop-name g l = record {
  names : texts_of l.fn.names ≡ names_of l.files ++ map string_bytes (into_iter_items l.name-iterator);
  good : AreGoodNames (names_of l.files);
  takable : All IsTakable l.files;
  read : All (IsReadBelow (g.D.FileSystem.known l.disk) l.base) l.files;
}
