-- Definitions for the laws on sections that are alike.
use Rattle.std.specs.Prelude.{◌≡◌, ℕ, List}
use Rattle.std.specs.List.{Contains}
use Rattle.aa_explain_diff.specs.Sections.{Section}

-- two lists have the same texts, in whatever order and however often each occurs
abbrev pub HaveSameTexts : List (List ℕ) → List (List ℕ) → Type 0
HaveSameTexts texts others =
    ((text : List ℕ) → Contains texts text → Contains others text) × ((text : List ℕ) → Contains others text → Contains texts text)

-- two sections are both hats or neither is, in one mode or both disabled, both audited or neither, with the same flags, and attach by the same
-- patterns
pub record HaveSameHead (one other : Section) : Type 0 where
  pub mode : one.mode ≡ other.mode
  pub hat : one.hat ≡ other.hat
  pub audit : one.audit ≡ other.audit
  pub flags : HaveSameTexts one.flags other.flags
  pub attachments : HaveSameTexts one.attachments other.attachments
