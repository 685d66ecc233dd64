-- What contracts see of an option of the code, and of its value among words.
use Rattle.std.specs.Prelude.{option_map, map, string_bytes}
use Rattle.aatry_arguments.specs.Values.{ValueOption, WithValue}
use Rattle.aatry_arguments.specs.declared.values.NamedOption.{NamedOption}
use Rattle.aatry_arguments.specs.declared.values.WithValue.{WithValue as CodeValue}

-- an option of the code
abbrev pub seen_option : NamedOption → ValueOption
seen_option option = record { word = option.word.now; opening = option.opening.now }

-- the value and the other words, as the code holds them
abbrev pub seen_value : CodeValue → WithValue
seen_value read = record { value = option_map (λ value. value.items) read.value; words = map string_bytes read.words.items }
