-- What is known of the program's streams before and after.
use Rattle.std.specs.Prelude.{◌≡◌, ℕ, Bool, false, List, Option}
use Rattle.std.specs.Io.KnownBytes.{Appends}

-- a stream that is read: the bytes that it still had and has, where they are known, how many reads there were, whether one had reached the end and
-- has, and whether one failed
pub record Reads : Type 0 where
  pub before : Option (List ℕ)
  pub after : Option (List ℕ)
  pub reads_before : ℕ
  pub reads_after : ℕ
  pub ended_before : Bool
  pub ended_after : Bool
  pub failed : Bool

-- a stream that is written: the bytes that were written to it before and by now, where they are known, and whether a write failed
pub record Writes : Type 0 where
  pub before : Option (List ℕ)
  pub after : Option (List ℕ)
  pub failed : Bool

abbrev pub read_from : (before after : Option (List ℕ)) (reads_before reads_after : ℕ) (ended_before ended_after : Bool) → Bool → Reads
read_from before after reads_before reads_after ended_before ended_after failed = record {
  before = before;
  after = after;
  reads_before = reads_before;
  reads_after = reads_after;
  ended_before = ended_before;
  ended_after = ended_after;
  failed = failed;
}

abbrev pub written_to : (before after : Option (List ℕ)) → Bool → Writes
written_to before after failed = record { before = before; after = after; failed = failed }

-- nothing was read
pub record IsUnread (stream : Reads) : Type 0 where
  pub left : stream.after ≡ stream.before
  pub reads : stream.reads_after ≡ stream.reads_before
  pub ended : stream.ended_after ≡ stream.ended_before

-- nothing was written
abbrev pub IsUnwritten : Writes → Type 0
IsUnwritten stream = stream.after ≡ stream.before

-- just these bytes were written, unless a write failed
abbrev pub IsWritten : List ℕ → Writes → Type 0
IsWritten bytes stream = stream.failed ≡ false → Appends stream.before stream.after bytes
