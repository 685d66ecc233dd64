-- The rules that describe a command line to `clap`, and what they have to be for it to read words as the options say.
use Rattle.std.specs.Prelude.{◌≡◌, ◌≤◌, ℕ, Bool, true, false, List, [], ◌∷◌, ◌++◌, Option, Some, None, length}
use Rattle.std.specs.Char.{encode_utf8}
use Rattle.std.specs.Str.{bytes_eq}
use Rattle.aa_start.specs.Options.{Effect, Flag, Help, Options, Unknown, Value, Version}
use Rattle.clap.specs.Lexer.{usize_max}
use Rattle.clap.specs.Words.{App, Row, Rule, Shape, Text, is_simple, new_app, new_rule}
use Rattle.clap.specs.Simple.{built, on_top}
use Rattle.clap.specs.Faults.{defaults_fault, is_simple_and_free, use_fault}
use Rattle.clap.specs.Walk.{arg_by_id, arg_by_index, arg_by_long, arg_by_short, is_multiple, most_values, takes_several, takes_values, used}
use Rattle.clap.specs.declared.builder.ArgAction.TheVariants.{Append, Set, SetTrue}
use Rattle.clap.specs.declared.error.kind.ErrorKind.TheVariants as kind

-- ---- what `clap` is told

-- a flag, by its letter
abbrev pub flag_rule : Text → ℕ → Rule
flag_rule id letter = record (new_rule id) { short = Some letter; action = Some SetTrue }

-- an option that takes a value, by its letter
abbrev pub value_rule : Text → ℕ → Rule
value_rule id letter = record (new_rule id) { short = Some letter; action = Some Set }

-- an option that takes a value, by its name
abbrev pub named_value_rule : Text → Text → Rule
named_value_rule id name = record (new_rule id) { long = Some name; action = Some Set }

-- the words that are no options
abbrev pub words_rule : Text → Bool → Rule
words_rule id is_required = record (new_rule id) {
  action = Some Append;
  range = Some (record { start_inclusive = 1; end_inclusive = usize_max });
  required = is_required;
}

-- the words come without the program's name
abbrev pub without_own_name : Shape → Shape
without_own_name top = record top { no_binary_name = true }

-- an option that is given again takes the place of the one before
abbrev pub with_last_option : Shape → Shape
with_last_option top = record top { args_override_self = true }

-- the program prints its version
abbrev pub with_version : Shape → Shape
with_version top = record top { has_version = true }

-- the command line of this name before its arguments
abbrev pub bare_line : Text → App
bare_line name = on_top with_last_option (on_top without_own_name (new_app name))

-- ---- what the rules have to be

-- an option that takes one value, beside the rule for words that are no options
pub record TakesValue (rules : List Rule) (words : Rule) (r : Rule) : Type 0 where
  pub most : most_values r ≡ 1
  pub found : arg_by_id rules r.id ≡ Some r
  pub other : bytes_eq r.id words.id ≡ false
  pub one : (value : Text) (rows : List Row) → use_fault true r (value ∷ []) rows ≡ []
  pub none : (rows : List Row) → use_fault true r [] rows ≡ kind.InvalidValue ∷ []

-- A rule does what the option does, where rows show what is given.
abbrev pub IsDoneBy : {A : Type 0} → (A → List Row → Type 0) → List Rule → Rule → Effect A → Option Rule → Type 0
IsDoneBy Shows rules words (Flag change) (Some r) = (takes_values r ≡ false) × ((rows : List Row) → use_fault true r [] rows ≡ [])
    × ((given : _) (rows : List Row) → Shows given rows → Shows (change given) (used r [] rows))
IsDoneBy Shows rules words (Value change) (Some r) = TakesValue rules words r
    × ((value : Text) (given : _) (rows : List Row) → Shows given rows → Shows (change value given) (used r (value ∷ []) rows))
IsDoneBy Shows rules words Help (Some r) = (takes_values r ≡ false) × ((rows : List Row) → use_fault true r [] rows ≡ kind.DisplayHelp ∷ [])
IsDoneBy Shows rules words Version (Some r) = (takes_values r ≡ false) × ((rows : List Row) → use_fault true r [] rows ≡ kind.DisplayVersion ∷ [])
IsDoneBy Shows rules words Unknown None = Unit {0}
IsDoneBy Shows rules words effect rule = ⊥

-- an option after whose letter more may follow in the word
abbrev pub GoesOn : {A : Type 0} → Effect A → Type 0
GoesOn (Flag change) = Unit {0}
GoesOn (Value change) = Unit {0}
GoesOn other = ⊥

-- `clap`, given this line, reads words as the options say, where rows show what is given.
pub record Reads {A : Type 0} (options : Options A) (line : App) (Shows : A → List Row → Type 0) : Type 0 where
  pub words : Rule
  pub bare : A
  -- the line is one for which it is defined what `clap` makes of words, and has no subcommands
  pub simple : is_simple line ≡ true
  pub free : is_simple_and_free line ≡ true
  pub subs : (built line).subs ≡ []
  pub own_name : line.top.no_binary_name ≡ true
  pub again : (built line).top.args_override_self ≡ true
  -- each option has its rule
  pub by_letter : (x : ℕ) → IsDoneBy Shows (built line).top.rules words (options.by_letter x) (arg_by_short (built line).top.rules x)
  pub by_name : (name : Text) → IsDoneBy Shows (built line).top.rules words (options.by_name name) (arg_by_long (built line).top.rules name)
  pub one_byte : (x : ℕ) → GoesOn (options.by_letter x) → length (encode_utf8 x) ≡ 1
  -- words that are no options have their rule
  pub found : arg_by_id (built line).top.rules words.id ≡ Some words
  pub placed : arg_by_index (built line).top.rules 1 ≡ Some words
  pub several : takes_several words ≡ true
  pub multiple : is_multiple words ≡ true
  pub free_words : words.trailing_var_arg ≡ false
  pub passes : (first : Text) (more : List Text) (rows : List Row) → length (first ∷ more) ≤ usize_max → use_fault true words (first ∷ more) rows ≡ []
  pub in_turn : (first : Text) (more : List Text) (last : Text) (rows : List Row)
      → used words (first ∷ more ++ last ∷ []) rows ≡ used words (last ∷ []) (used words (first ∷ more) rows)
  -- rows show what is given
  pub shows_bare : Shows bare []
  pub shows_word : (word : Text) (given : A) (rows : List Row) → Shows given rows → Shows (options.with_words (word ∷ []) given) (used words (word ∷ []) rows)
  pub none_more : (given : A) → options.with_words [] given ≡ given
  pub one_more : (word : Text) (more : List Text) (given : A) → options.with_words more (options.with_words (word ∷ []) given) ≡ options.with_words (word ∷ more) given
  -- defaults are no faults
  pub defaults : (rows : List Row) → defaults_fault rows (built line).top.rules ≡ []
