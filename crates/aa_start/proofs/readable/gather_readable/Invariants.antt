use Rattle.std.proofs.Common.{◌≡◌, ◌++◌, drop}
use Rattle.std.specs.Prelude.{map, string_bytes}
use Rattle.std.specs.List.{All}
use Rattle.aa_start.specs.Gathering.{names_of, IsTakable}
use Rattle.aa_start.specs.Names.{AreGoodNames}
use Rattle.aa_start.specs.Readable.{AreTakenSo}
use Rattle.aa_start.proofs.readable.gather_readable.Given as goal

-- the names of the files that were taken, and behind them those that are left
abbrev pub invariant-loop-name : goal.invariant-loop-name
invariant-loop-name g l = record {
  names : map string_bytes l.names ≡ names_of l.files ++ map string_bytes (drop l.name-index l.names);
  good : AreGoodNames (names_of l.files);
  takable : All IsTakable l.files;
  read : AreTakenSo (g.D.FileSystem.known l.disk) l.base l.files l.unread.items;
}
