-- Bytes that a reader has left, and those that were read of them.
use Rattle.std.proofs.Common.{◌+◌, ◌<◌, ◌≤◌, ℕ, List, Option, None, Some, arith, length, length-append, subst, sym}
use Rattle.std.specs.Prelude.{IfSome, take}
use Rattle.std.specs.Io.KnownBytes.{Consumes}
use Rattle.std.proofs.lemmas.List.{length-take-le}

-- what was read and what is left are more than so many bytes together, and so is all
pub longer_whole : (most : ℕ) (old new : Option (List ℕ)) (read : List ℕ) → Consumes old new read
    → IfSome new (λ left. most < length read + length left) → IfSome old (λ left. most < length left)
longer_whole most None new read consumed longer = tt
longer_whole most (Some all) None read consumed longer = absurd consumed
longer_whole most (Some all) (Some left) read consumed longer =
    subst (λ bytes. most < length bytes) (sym consumed) (omega (arith, longer, length-append read left))

-- where so many bytes were read that all are too many, what was left was too long
pub longer_read : (most there count : ℕ) (piece : List ℕ) (old new : Option (List ℕ)) → Consumes old new (take count piece) → count ≤ length piece
    → most < there + count → IfSome old (λ left. most < there + length left)
longer_read most there count piece None new consumed within more = tt
longer_read most there count piece (Some all) None consumed within more = absurd consumed
longer_read most there count piece (Some all) (Some left) consumed within more =
    subst (λ bytes. most < there + length bytes) (sym consumed)
    (omega (arith, more, length-take-le count piece within, length-append (take count piece) left))
