-- What has been written to a stream, and what waits to be written, where the written bytes are known.
use Rattle.std.specs.Prelude.{◌≡◌, ◌==◌, ◌&&◌, not, ℕ, Bool, List, ◌++◌, Option}
use Rattle.std.specs.Io.KnownBytes.{Appends}

-- Some prefix of the bytes was written, and nothing else: all of them, none of them, or the first few.
abbrev pub AppendsFront : Option (List ℕ) → Option (List ℕ) → List ℕ → Type 0
AppendsFront old new bs = (front rest : List ℕ) × (bs ≡ front ++ rest) × Appends old new front

-- The bytes were written, or appended to those that had waited. Some prefix of both together is written by now, and the rest of both waits, so that
-- no byte is lost, written twice or out of its turn.
pub record WritesBehind (old new : Option (List ℕ)) (waited waits bytes : List ℕ) : Type 0 where
  pub done : List ℕ
  pub writes : Appends old new done
  pub keeps : done ++ waits ≡ waited ++ bytes

-- a read of so many bytes into a buffer of this length reaches the end: it gives none, although there is room
abbrev pub comes_to_end : ℕ → ℕ → Bool
comes_to_end count size = count == 0 && not (size == 0)
