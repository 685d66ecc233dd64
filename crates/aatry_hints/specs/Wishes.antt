-- Whether lines are to be in colours (docs/aatry.md, "Colours").
use Rattle.std.specs.Prelude.{ℕ, Bool, false, true, if◌then◌else◌, List, Option, None, Some, codes, map, string_bytes}
use Rattle.std.specs.Option.{option_map}
use Rattle.std.specs.Str.{bytes_eq}
use Rattle.aatry_arguments.specs.Values.{ValueOption, WithValue, value_of}
use Rattle.aatry_hints.specs.declared.wishes.ColorWish.{ColorWish}
use Rattle.aatry_hints.specs.declared.wishes.ColorWish.TheVariants.{Always, AtTerminal, Never}
use Rattle.aatry_hints.specs.declared.wishes.WithWish.{WithWish}

-- the option for colours
abbrev pub color_option : ValueOption
color_option = record { word = codes "--color"; opening = codes "--color=" }

-- the wish of a value: of three words each one; without a value colours at a terminal
abbrev pub wish_of : List ℕ → Option ColorWish
wish_of value =
    if bytes_eq value (codes "auto") then Some AtTerminal else
    if bytes_eq value (codes "always") then Some Always else
    if bytes_eq value (codes "never") then Some Never else None

abbrev pub wish_named : Option (List ℕ) → Option ColorWish
wish_named None = Some AtTerminal
wish_named (Some value) = wish_of value

-- the wish of words, and the words without it
pub record Wished : Type 0 where
  pub wish : ColorWish
  pub words : List (List ℕ)

-- the wish of the code
abbrev pub seen_wished : WithWish → Wished
seen_wished wished = record { wish = wished.wish; words = map string_bytes wished.words.items }

abbrev pub wished_with : List (List ℕ) → ColorWish → Wished
wished_with words wish = record { wish = wish; words = words }

-- the wish, by what was read of the option
abbrev pub wished_by : Option WithValue → Option Wished
wished_by None = None
wished_by (Some read) = option_map (wished_with read.words) (wish_named read.value)

-- the wish of words; nothing where the option has another value, or none
abbrev pub wished : List (List ℕ) → Option Wished
wished words = wished_by (value_of color_option words)

-- lines are in colours, by whether the terminal takes colours
abbrev pub is_colored : ColorWish → Bool → Bool
is_colored AtTerminal takes = takes
is_colored Always takes = true
is_colored Never takes = false
