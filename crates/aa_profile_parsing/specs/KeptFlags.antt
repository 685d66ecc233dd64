-- Which words are in FLAGS: definitions for the law on flags that are kept.
use Rattle.std.specs.Prelude.{ℕ, Bool, false, ◌&&◌, ◌||◌, List, Option, None, Some, codes}
use Rattle.std.specs.Str.{bytes_eq}
use Rattle.aa_profile_parsing.specs.FlagText.{has_word}
use Rattle.aa_profile_parsing.specs.Flags.{name_of_mode}
use Rattle.aa_profile_parsing.specs.declared.flags.Flags.{Flags}
use Rattle.aa_profile_parsing.specs.declared.flags.ModeFlag.{ModeFlag}

-- a word is the name of a mode flag, where there is one
abbrev pub is_mode : Option ModeFlag → List ℕ → Bool
is_mode None word = false
is_mode (Some mode) word = bytes_eq word (name_of_mode mode)

-- A word is one of the flags that decide something and are set, or one of those that are kept.
abbrev pub stands : Flags → List (List ℕ) → List ℕ → Bool
stands flags kept word =
    is_mode flags.mode word
    || (bytes_eq word (codes "audit") && flags.audit)
    || has_word word kept
