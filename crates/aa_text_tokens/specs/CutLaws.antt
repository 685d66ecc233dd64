-- Definitions for the laws of cutting.
use Rattle.std.specs.Prelude.{ℕ, ◌≡◌, ◌+◌, ◌-◌, ◌<◌, ◌≤◌, Bool, true, false, not, ◌==◌, ◌&&◌, ◌||◌, List, [], ◌∷◌, ◌++◌, length, take, drop, if◌then◌else◌, Result, Ok, Err, codes, ◌⊎◌}
use Rattle.std.specs.List.{list_all, list_any}
use Rattle.aa_bytes.specs.Texts.{begins, begins_with_byte}
use Rattle.aa_bytes.specs.Bytes.{closing_brace, hash, is_blank, is_space_or_tab, line_feed, quote, smaller}
use Rattle.aa_text_tokens.specs.Cut.{Seen, closing, cut, is_assign}
use Rattle.aa_text_tokens.specs.code.Tokens.{with_tokens}
use Rattle.aa_text_tokens.specs.declared.cut.CutRefusal.{CutRefusal}
use Rattle.aa_text_tokens.specs.declared.cut.TokenKind.{TokenKind}
use Rattle.aa_text_tokens.specs.declared.cut.TokenKind.TheVariants.{Assign, Include, Quoted, Value}

-- A text has only blanks and comments, from outside a comment or from within one. A comment reaches to the end of its line; only the last gap may
-- end within one.
abbrev pub is_gap_from : Bool → Bool → List ℕ → Bool
is_gap_from last comment [] = last || not comment
is_gap_from last true (b ∷ bs) = is_gap_from last (not (b == line_feed)) bs
is_gap_from last false (b ∷ bs) = (is_blank b || b == hash) && is_gap_from last (b == hash) bs

-- what may come before a token
abbrev pub is_gap : List ℕ → Bool
is_gap text = is_gap_from false false text

-- what may follow the last token
abbrev pub is_last_gap : List ℕ → Bool
is_last_gap text = is_gap_from true false text

-- a text has only spaces and tabs
abbrev pub are_spaces : List ℕ → Bool
are_spaces text = list_all is_space_or_tab text

-- the word of an Include, and maybe spaces or tabs
abbrev pub IsIncludeWord : List ℕ → Type 0
IsIncludeWord front =
    (word : List ℕ) × (gap : List ℕ) × ((word ≡ codes "include") ⊎ (word ≡ codes "#include")) × (are_spaces gap ≡ true) × (front ≡ word ++ gap)

-- What comes before the byte that opens an Include's name: its word alone, or followed by `if exists` where the file may be missing.
abbrev pub IsBeforeName : Bool → List ℕ → Type 0
IsBeforeName false front = IsIncludeWord front
IsBeforeName true front =
    (start : List ℕ) × (gap : List ℕ) × (more : List ℕ) × IsIncludeWord start × (are_spaces gap ≡ true) × (are_spaces more ≡ true)
    × (front ≡ start ++ codes "if" ++ gap ++ codes "exists" ++ more)

-- the sign of an Assign
abbrev pub assign_sign : Bool → List ℕ
assign_sign append = if append then codes "+=" else codes "="

-- How a token's span determines its text, and whether an Include's file may be missing and an Assign appends: an Include's name is between the byte
-- that opens it and the one that closes it, after its word, an Assign's between `@{` and `}`, before its sign, and a quoted text between the quotes.
-- A value may be in quotes or not. Any other token's text is all of its span.
abbrev pub IsTextOf : TokenKind → List ℕ → List ℕ → Type 0
IsTextOf (Include if_exists) text span =
    (front : List ℕ) × (opener : ℕ) × IsBeforeName if_exists front × ((opener == smaller || opener == quote) ≡ true) × (span ≡ front ++ opener ∷ text ++ closing opener ∷ [])
IsTextOf (Assign append) text span = (gap : List ℕ) × (are_spaces gap ≡ true) × (span ≡ codes "@{" ++ text ++ closing_brace ∷ gap ++ assign_sign append)
IsTextOf Value text span = ((begins_with_byte quote span ≡ false) × (span ≡ text)) ⊎ (span ≡ quote ∷ text ++ quote ∷ [])
IsTextOf Quoted text span = span ≡ quote ∷ text ++ quote ∷ []
IsTextOf kind text span = span ≡ text

-- A token is the next one in a text, from an offset of its source on.
pub record IsNext (at : ℕ) (text : List ℕ) (token : Seen) : Type 0 where
  -- it does not overlap what comes before
  pub behind : at ≤ token.start
  -- it has at least one byte
  pub some : token.start < token.end
  -- all of it belongs to the text
  pub within : token.end ≤ at + length text
  -- only blanks and comments come before it
  pub gap : is_gap (take (token.start - at) text) ≡ true
  -- it begins with no blank
  pub black : begins is_blank (drop (token.start - at) text) ≡ false
  -- its span determines its own text, and what else its kind says
  pub own : IsTextOf token.kind token.text (take (token.end - token.start) (drop (token.start - at) text))

-- Tokens cover a text, from an offset of its source on: each is the next one after those before it, and only blanks and comments follow the last.
abbrev pub Covers : ℕ → List ℕ → List Seen → Type 0
Covers at text [] = is_last_gap text ≡ true
Covers at text (token ∷ tokens) = IsNext at text token × Covers token.end (drop (token.end - at) text) tokens

-- a text has a line feed
abbrev pub has_line_feed : List ℕ → Bool
has_line_feed text = list_any (λ b. b == line_feed) text

-- the tokens of a text, and then those of what follows it; or the first fault
abbrev pub followed_by : Result (List Seen) (CutRefusal × ℕ) → Result (List Seen) (CutRefusal × ℕ) → Result (List Seen) (CutRefusal × ℕ)
followed_by (Ok tokens) more = with_tokens tokens more
followed_by (Err fault) more = Err fault

-- a token is a value
abbrev pub is_value : TokenKind → Bool
is_value Value = true
is_value kind = false

-- After an Assign each token is a value, and before it none is; or each is from the first on.
abbrev pub AreValuesPlaced : Bool → List Seen → Type 0
AreValuesPlaced values [] = Unit {0}
AreValuesPlaced values (token ∷ tokens) = (is_value token.kind ≡ values) × AreValuesPlaced (values || is_assign token.kind) tokens

-- A text is cut line by line: up to a line feed as if it ended there, and what follows as if it began there.
abbrev pub TextIsCutByLines : Type 0
TextIsCutByLines =
    (at : ℕ) (values : Bool) (text rest : List ℕ)
    → cut at 0 values (text ++ line_feed ∷ rest) ≡ followed_by (cut at 0 values text) (cut (at + length text + 1) 0 false rest)

-- In a line each token after an Assign is a value, and no other is.
abbrev pub LineHasValuesPlaced : Type 0
LineHasValuesPlaced =
    (at : ℕ) (line : List ℕ) (tokens : List Seen)
    → has_line_feed line ≡ false
    → cut at 0 false line ≡ Ok tokens
    → AreValuesPlaced false tokens
