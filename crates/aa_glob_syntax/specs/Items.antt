-- Pattern items: what the text of a pattern reads as (apparmor.d(5), "Globbing").
use Rattle.std.specs.Prelude.{ℕ}
use Rattle.aa_bytes.specs.declared.byte_set.ByteSet.{ByteSet}

mutual
  -- An item: a byte that stands for itself, one byte of a set, any bytes within a segment, any bytes, or a group, which has two or more
  -- alternatives. No item of a text that reads as a pattern matches zero.
  pub data Item : Type 0 where
    Byte : (byte : ℕ) → Item
    Set : (set : ByteSet) → Item
    Star : Item
    DoubleStar : Item
    Group : (first : Pattern) → (second : Pattern) → (others : Patterns) → Item

  -- A pattern is a list of items.
  pub data Pattern : Type 0 where
    End : Pattern
    Next : (item : Item) → (items : Pattern) → Pattern

  -- a list of patterns
  pub data Patterns : Type 0 where
    NoMore : Patterns
    More : (pattern : Pattern) → (patterns : Patterns) → Patterns
