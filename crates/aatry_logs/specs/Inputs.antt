-- An input, gathered as a log, line by line.
use Rattle.std.specs.Prelude.{◌≡◌, ℕ, false, List, ◌++◌, Option, None, Some, ⊤}
use Rattle.aa_set_commands.specs.Lines.{lines}
use Rattle.aatry_log_lines.specs.Selections.{Selection}
use Rattle.aatry_logs.specs.Compressed.{begin_compressed}
use Rattle.aatry_logs.specs.LogRequests.{LogRequests, begun, with_lines}

-- These lines of an input were returned, of which nothing had been read, and the others are those of what waits and of what is still to be read,
-- where that is known.
abbrev pub AreGiven : (before : Option (List ℕ)) (given : List (List ℕ)) (now : Option (List ℕ)) (waits : List ℕ) → Type 0
AreGiven None given now waits = ⊤
AreGiven (Some bytes) given None waits = ⊥
AreGiven (Some bytes) given (Some rest) waits = lines bytes ≡ given ++ lines (waits ++ rest)

-- These are all lines of an input, where its bytes are known.
abbrev pub AreAllLines : (left : Option (List ℕ)) (given : List (List ℕ)) → Type 0
AreAllLines None given = ⊤
AreAllLines (Some bytes) given = given ≡ lines bytes

-- What was gathered so far of a log that has begun has become this by all lines of an input, which gzip didn't write.
abbrev pub IsAllTaken : Selection → (file left : Option (List ℕ)) → (before after : LogRequests) → Type 0
IsAllTaken selection file left before after =
    (given : List (List ℕ)) × AreAllLines left given × (begin_compressed given ≡ false) × (after ≡ with_lines selection file before given)

-- What was gathered so far has become this by all lines of a log that begins: that at a path, or standard input, which gzip didn't write.
abbrev pub IsGatheredFrom : Selection → (file left : Option (List ℕ)) → (before after : LogRequests) → Type 0
IsGatheredFrom selection file left before after = IsAllTaken selection file left (begun before) after
