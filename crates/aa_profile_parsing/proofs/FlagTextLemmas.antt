-- FLAGS token by token, and what they say as one text.
use Rattle.std.proofs.Common.{◌≡◌, ℕ, zero, suc, ◌+◌, Bool, true, false, List, [], ◌∷◌, ◌++◌, take, drop, Option, None, Some, Result, Ok, Err, refl, ap, sym, ◌∙◌, subst, arith}
use Rattle.std.specs.Prelude.{not, ◌==◌, ◌&&◌, ◌||◌, if◌then◌else◌, codes}
use Rattle.std.specs.List.{list_all, prefix_len, slice_split}
use Rattle.std.specs.Str.{bytes_eq}
use Rattle.std.proofs.lemmas.Bool.{and_parts, not-false, not-true}
use Rattle.std.proofs.lemmas.Bool.Decides.{nat_tests}
use Rattle.std.proofs.lemmas.Slice.Eq.{bytes_eq-Decides}
use Rattle.aa_bytes.specs.Bytes.{backslash, closing_parenthesis, comma, equals, is_blank, opening_parenthesis, space}
use Rattle.aa_bytes.specs.Texts.{begins_with, is_empty}
use Rattle.aa_text_tokens.specs.Splicing.{Placed}
use Rattle.aa_text_tokens.specs.declared.cut.TokenKind.{TokenKind}
use Rattle.aa_text_tokens.specs.declared.cut.TokenKind.TheVariants.{Include, Assign, Value, Quoted, Word, Comma, OpenBrace, CloseBrace}
use Rattle.aa_profile_parsing.specs.Parts.{Part, refused}
use Rattle.aa_profile_parsing.specs.Tokens.{text_of}
use Rattle.aa_profile_parsing.specs.declared.fault.GrammarRefusal.{GrammarRefusal}
use Rattle.aa_profile_parsing.specs.declared.fault.GrammarRefusal.TheVariants.{BadToken}
use Rattle.aa_profile_parsing.specs.declared.language.Language.{Language}
use Rattle.aa_profile_parsing.specs.Flags.{behind_keyword, behind_sign, finished, flags, flags_behind, listed, opened, separates, unflagged, with_comma, with_flags, with_token, with_word}
use Rattle.aa_profile_parsing.specs.FlagText.{IsReadAs, are_blanks_escaped, behind_blanks, is_flag_token, said, said_behind_sign, said_in_parentheses, said_up_to_parenthesis, spaced, with_keyword}
use Rattle.aa_profile_parsing.specs.declared.flags.Flags.{Flags}
use Rattle.aa_profile_parsing.specs.declared.flags.FlagsSoFar.{FlagsSoFar}
use Rattle.aa_profile_parsing.specs.declared.flags.FlagsSoFar.TheVariants.{Absent, Keyword, Sign, Listing, Closed}
use Rattle.aa_profile_parsing.proofs.FlagListLemmas.{given, list-said, split-at, then_flags, with_flags-more}

-- the list goes on
abbrev q : ℕ → Bool
q b = not (b == closing_parenthesis)

-- what is said up to a `)`, from that and what stands from the `)` on
abbrev closed : Option Flags → List ℕ → Option Flags
closed found rest = elim rest [ [] ↦ None | parenthesis ∷ behind ↦ if list_all is_blank behind then found else None ]

module _ (language : Language) where
  -- what a list says behind some flags
  abbrev said_behind : Flags → List ℕ → Option Flags
  said_behind found text = closed (given (with_flags language found (slice_split separates (take (prefix_len q text) text)))) (drop (prefix_len q text) text)

  -- what FLAGS say, from how far they were read, and the text of the others
  abbrev said_from : FlagsSoFar → List ℕ → Option Flags
  said_from Absent text = said language text
  said_from Keyword text = said_behind_sign language text
  said_from Sign text = said_in_parentheses language text
  said_from (Listing found) text = said_behind found text
  said_from (Closed found) text = if list_all is_blank text then Some found else None

  abbrev said_after : Result FlagsSoFar GrammarRefusal → List ℕ → Option Flags
  said_after (Err refusal) text = None
  said_after (Ok after) text = said_from after text

  -- a text with no `)` before another: the list goes on
  passes-all : (t u : List ℕ) → drop (prefix_len q t) t ≡ []
      → (take (prefix_len q (t ++ u)) (t ++ u) ≡ t ++ take (prefix_len q u) u) × (drop (prefix_len q (t ++ u)) (t ++ u) ≡ drop (prefix_len q u) u) × (take (prefix_len q t) t ≡ t)
  passes-all [] u h = (refl, refl, refl)
  passes-all (b ∷ t) u h = by (q b) refl (passes-all t u)
    where
      by : (passes : Bool) → q b ≡ passes
          → (drop (prefix_len q t) t ≡ [] → (take (prefix_len q (t ++ u)) (t ++ u) ≡ t ++ take (prefix_len q u) u) × (drop (prefix_len q (t ++ u)) (t ++ u) ≡ drop (prefix_len q u) u) × (take (prefix_len q t) t ≡ t))
          → (take (prefix_len q (b ∷ t ++ u)) (b ∷ t ++ u) ≡ b ∷ t ++ take (prefix_len q u) u) × (drop (prefix_len q (b ∷ t ++ u)) (b ∷ t ++ u) ≡ drop (prefix_len q u) u) × (take (prefix_len q (b ∷ t)) (b ∷ t) ≡ b ∷ t)
      by true e more =
          let one : 1 + prefix_len q t ≡ suc (prefix_len q t) = omega arith in
          let both : 1 + prefix_len q (t ++ u) ≡ suc (prefix_len q (t ++ u)) = omega arith in
          let none : drop (1 + prefix_len q t) (b ∷ t) ≡ [] = rw e at h in
          let rest = more (ap (λ n. drop n (b ∷ t)) (sym one) ∙ none) in
          (rw e (ap (λ n. take n (b ∷ t ++ u)) both ∙ ap (λ text. b ∷ text) rest.0), rw e (ap (λ n. drop n (b ∷ t ++ u)) both ∙ rest.1), rw e (ap (λ n. take n (b ∷ t)) one ∙ ap (λ text. b ∷ text) rest.2))
      by false e more = let wrong : b ∷ t ≡ [] = rw e at h in absurd (cc)

  -- a text with a `)` before another: the list ends there
  stops-within : (t u : List ℕ) (p : ℕ) (behind : List ℕ) → drop (prefix_len q t) t ≡ p ∷ behind
      → (take (prefix_len q (t ++ u)) (t ++ u) ≡ take (prefix_len q t) t) × (drop (prefix_len q (t ++ u)) (t ++ u) ≡ p ∷ behind ++ u) × (q p ≡ false)
  stops-within [] u p behind h = absurd (cc)
  stops-within (b ∷ t) u p behind h = by (q b) refl (stops-within t u p behind)
    where
      by : (passes : Bool) → q b ≡ passes
          → (drop (prefix_len q t) t ≡ p ∷ behind → (take (prefix_len q (t ++ u)) (t ++ u) ≡ take (prefix_len q t) t) × (drop (prefix_len q (t ++ u)) (t ++ u) ≡ p ∷ behind ++ u) × (q p ≡ false))
          → (take (prefix_len q (b ∷ t ++ u)) (b ∷ t ++ u) ≡ take (prefix_len q (b ∷ t)) (b ∷ t)) × (drop (prefix_len q (b ∷ t ++ u)) (b ∷ t ++ u) ≡ p ∷ behind ++ u) × (q p ≡ false)
      by true e more =
          let one : 1 + prefix_len q t ≡ suc (prefix_len q t) = omega arith in
          let both : 1 + prefix_len q (t ++ u) ≡ suc (prefix_len q (t ++ u)) = omega arith in
          let some : drop (1 + prefix_len q t) (b ∷ t) ≡ p ∷ behind = rw e at h in
          let rest = more (ap (λ n. drop n (b ∷ t)) (sym one) ∙ some) in
          (rw e (ap (λ n. take n (b ∷ t ++ u)) both ∙ ap (λ text. b ∷ text) rest.0 ∙ ap (λ n. take n (b ∷ t)) (sym one)), rw e (ap (λ n. drop n (b ∷ t ++ u)) both ∙ rest.1), rest.2)
      by false e more =
          let some : b ∷ t ≡ p ∷ behind = rw e at h in
          let first : b ≡ p = cc in
          (rw e refl, rw e (ap (λ text. text ++ u) some), ap q (sym first) ∙ e)

  -- the first byte behind one that is no backslash is no blank
  not-blank : (before b : ℕ) (t : List ℕ) → (before == backslash) ≡ false → are_blanks_escaped before (b ∷ t) ≡ true → is_blank b ≡ false
  not-blank before b t other h = by (is_blank b) refl
    where
      by : (blank : Bool) → is_blank b ≡ blank → is_blank b ≡ false
      by true e = let wrong : false ≡ true = rw (e, other) at h in absurd (cc)
      by false e = e

  -- blanks stay behind backslashes in what stands behind the first byte
  escaped-rest : (before b : ℕ) (t : List ℕ) → are_blanks_escaped before (b ∷ t) ≡ true → are_blanks_escaped b t ≡ true
  escaped-rest before b t h = (and_parts (not (is_blank b) || before == backslash) (are_blanks_escaped b t) h).1

  -- the same behind so many bytes and one more
  escaped-behind : (n before : ℕ) (t : List ℕ) (p : ℕ) (behind : List ℕ) → are_blanks_escaped before t ≡ true → drop n t ≡ p ∷ behind → are_blanks_escaped p behind ≡ true
  escaped-behind zero before t p behind h is = escaped-rest before p behind (ap (are_blanks_escaped before) (sym is) ∙ h)
  escaped-behind (suc n) before [] p behind h is = absurd (cc)
  escaped-behind (suc n) before (b ∷ t) p behind h is = escaped-behind n b t p behind (escaped-rest before b t h) is

  -- blanks alone stand behind a list where nothing of its word does, and blanks alone behind that
  blanks-behind : (before : ℕ) (t u : List ℕ) → (before == backslash) ≡ false → are_blanks_escaped before t ≡ true → list_all is_blank (t ++ space ∷ u) ≡ (is_empty t && list_all is_blank u)
  blanks-behind before [] u other h = refl
  blanks-behind before (b ∷ t) u other h = rw (not-blank before b t other h) refl

  -- a list that isn't closed by its first words
  goes-on : (first : Result Flags GrammarRefusal) (u : List ℕ)
      → closed (given (then_flags first (λ found. with_flags language found (slice_split separates (take (prefix_len q u) u))))) (drop (prefix_len q u) u)
      ≡ said_after (elim first [ Err refusal ↦ Err refusal | Ok found ↦ Ok (Listing found) ]) u
  goes-on (Err refusal) u = by (drop (prefix_len q u) u)
    where
      either : (blank : Bool) → ◌≡◌ {A = Option Flags} (if blank then None else None) None
      either true = refl
      either false = refl

      by : (rest : List ℕ) → closed None rest ≡ None
      by [] = refl
      by (p ∷ behind) = either (list_all is_blank behind)
  goes-on (Ok found) u = refl

  -- a list that is closed by its last word
  ends : (first : Result Flags GrammarRefusal) (empty : Bool) (u : List ℕ)
      → (if empty && list_all is_blank u then given first else None)
      ≡ said_after (elim first [ Err refusal ↦ Err refusal | Ok found ↦ if empty then Ok (Closed found) else Err BadToken ]) u
  ends (Err refusal) false u = refl
  ends (Err refusal) true u = by (list_all is_blank u)
    where
      by : (blank : Bool) → ◌≡◌ {A = Option Flags} (if blank then None else None) None
      by true = refl
      by false = refl
  ends (Ok found) true u = refl
  ends (Ok found) false u = refl

  -- what comes of a list's words, from what they say and what stands from the first `)` on
  abbrev told : Result Flags GrammarRefusal → List ℕ → Result FlagsSoFar GrammarRefusal
  told first rest = elim first [
    | Err refusal ↦ Err refusal
    | Ok found ↦ elim rest [ [] ↦ Ok (Listing found) | parenthesis ∷ behind ↦ if is_empty behind then Ok (Closed found) else Err BadToken ]
  ]

  -- the list goes on with a word
  list-step : (found : Flags) (before : ℕ) (t u : List ℕ) → are_blanks_escaped before t ≡ true → said_behind found (t ++ space ∷ u) ≡ said_after (listed language found t) u
  list-step found before t u h = by (drop (prefix_len q t) t) refl
    where
      by : (rest : List ℕ) → drop (prefix_len q t) t ≡ rest → said_behind found (t ++ space ∷ u) ≡ said_after (listed language found t) u
      by [] e =
          let all = passes-all t (space ∷ u) e in
          let one : 1 + prefix_len q u ≡ suc (prefix_len q u) = omega arith in
          let list : take (prefix_len q (t ++ space ∷ u)) (t ++ space ∷ u) ≡ t ++ space ∷ take (prefix_len q u) u = all.0 ∙ ap (λ n. t ++ take n (space ∷ u)) one in
          let rest : drop (prefix_len q (t ++ space ∷ u)) (t ++ space ∷ u) ≡ drop (prefix_len q u) u = all.1 ∙ ap (λ n. drop n (space ∷ u)) one in
          let words = ap (with_flags language found) (split-at t (take (prefix_len q u) u) space refl) ∙ with_flags-more language (slice_split separates t) (slice_split separates (take (prefix_len q u) u)) found in
          let is : listed language found t ≡ told (with_flags language found (slice_split separates t)) [] =
          ap (told (with_flags language found (slice_split separates (take (prefix_len q t) t)))) e ∙ ap (λ list. told (with_flags language found (slice_split separates list)) []) all.2
          in
          ap (λ list. closed (given (with_flags language found (slice_split separates list))) (drop (prefix_len q (t ++ space ∷ u)) (t ++ space ∷ u))) list
          ∙ (ap (closed (given (with_flags language found (slice_split separates (t ++ space ∷ take (prefix_len q u) u))))) rest
          ∙ (ap (λ (read : Result Flags GrammarRefusal). closed (given read) (drop (prefix_len q u) u)) words
          ∙ (goes-on (with_flags language found (slice_split separates t)) u ∙ ap (λ after. said_after after u) (sym is))))
      by (p ∷ behind) e =
          let all = stops-within t (space ∷ u) p behind e in
          let parenthesis : (p == closing_parenthesis) ≡ true = not-false (p == closing_parenthesis) all.2 in
          let other : (p == backslash) ≡ false = grind (arith, nat_tests) in
          let alone = blanks-behind p behind u other (escaped-behind (prefix_len q t) before t p behind h e) in
          let first = with_flags language found (slice_split separates (take (prefix_len q t) t)) in
          let is : listed language found t ≡ told first (p ∷ behind) = ap (told first) e in
          ap (λ list. closed (given (with_flags language found (slice_split separates list))) (drop (prefix_len q (t ++ space ∷ u)) (t ++ space ∷ u))) all.0
          ∙ (ap (closed (given first)) all.1
          ∙ (ap (λ passes. if passes then given first else None) alone
          ∙ (ends first (is_empty behind) u ∙ ap (λ after. said_after after u) (sym is))))

  -- a list up to its `)` says what its words do
  said-list : (text : List ℕ) → said_up_to_parenthesis language text ≡ said_behind unflagged text
  said-list text = ap (λ found. closed found (drop (prefix_len q text) text)) (sym (list-said language (take (prefix_len q text) text)))

  -- a word with which the list opens
  open-step : (before : ℕ) (t u : List ℕ) → is_empty t ≡ false → are_blanks_escaped before t ≡ true → said_in_parentheses language (t ++ space ∷ u) ≡ said_after (opened language t) u
  open-step before [] u some h = absurd (cc)
  open-step before (b ∷ t) u some h = by (b == opening_parenthesis) refl
    where
      by : (opens : Bool) → (b == opening_parenthesis) ≡ opens → said_in_parentheses language (b ∷ t ++ space ∷ u) ≡ said_after (opened language (b ∷ t)) u
      by true e = rw e (said-list (t ++ space ∷ u) ∙ list-step unflagged b t u (escaped-rest before b t h))
      by false e = rw e refl

  -- what is behind the sign, in its word
  sign-step : (before : ℕ) (t u : List ℕ) → (before == backslash) ≡ false → are_blanks_escaped before t ≡ true → behind_blanks u ≡ u
      → said_in_parentheses language (behind_blanks (t ++ space ∷ u)) ≡ said_after (behind_sign language t) u
  sign-step before [] u other h begins = ap (said_in_parentheses language) begins
  sign-step before (b ∷ t) u other h begins =
      let here : behind_blanks (b ∷ t ++ space ∷ u) ≡ b ∷ t ++ space ∷ u = rw (not-blank before b t other h) refl in
      ap (said_in_parentheses language) here ∙ open-step before (b ∷ t) u refl h

  -- what is behind the word `flags`, in its word
  keyword-step : (before : ℕ) (t u : List ℕ) → (before == backslash) ≡ false → are_blanks_escaped before t ≡ true → behind_blanks u ≡ u
      → said_behind_sign language (behind_blanks (t ++ space ∷ u)) ≡ said_after (behind_keyword language t) u
  keyword-step before [] u other h begins = ap (said_behind_sign language) begins
  keyword-step before (b ∷ t) u other h begins =
      let here : behind_blanks (b ∷ t ++ space ∷ u) ≡ b ∷ t ++ space ∷ u = rw (not-blank before b t other h) refl in
      ap (said_behind_sign language) here ∙ by (b == equals) refl
    where
      by : (signs : Bool) → (b == equals) ≡ signs → said_behind_sign language (b ∷ t ++ space ∷ u) ≡ said_after (behind_keyword language (b ∷ t)) u
      by true e = let differs : (b == backslash) ≡ false = grind (arith, nat_tests) in rw e (sign-step b t u differs (escaped-rest before b t h) begins)
      by false e = rw e refl

  -- a word that doesn't begin with `flags`, and neither does its text with more behind it
  other-word : (t u : List ℕ) → is_empty t ≡ false → are_blanks_escaped 0 t ≡ true → begins_with (codes "flags") (t ++ space ∷ u) ≡ false → begins_with (codes "flags") t ≡ false
      → said language (t ++ space ∷ u) ≡ said_after (with_word language Absent t) u
  other-word [] u some h longer shorter = absurd (cc)
  other-word (b ∷ t) u some h longer shorter = rw (longer, shorter) (open-step 0 (b ∷ t) u some h)

  none-1 : (a : Bool) → (a && false) ≡ false
  none-1 true = refl
  none-1 false = refl

  none-2 : (a b : Bool) → (a && (b && false)) ≡ false
  none-2 true b = none-1 b
  none-2 false b = refl

  none-3 : (a b c : Bool) → (a && (b && (c && false))) ≡ false
  none-3 true b c = none-2 b c
  none-3 false b c = refl

  none-4 : (a b c d : Bool) → (a && (b && (c && (d && false)))) ≡ false
  none-4 true b c d = none-3 b c d
  none-4 false b c d = refl

  -- the first word
  first-step : (t u : List ℕ) → is_empty t ≡ false → are_blanks_escaped 0 t ≡ true → behind_blanks u ≡ u → said language (t ++ space ∷ u) ≡ said_after (with_word language Absent t) u
  first-step [] u some h begins = absurd (cc)
  first-step (a ∷ []) u some h begins = other-word (a ∷ []) u some h (none-1 (a == 102)) (none-1 (a == 102))
  first-step (a ∷ b ∷ []) u some h begins = other-word (a ∷ b ∷ []) u some h (none-2 (a == 102) (b == 108)) (none-2 (a == 102) (b == 108))
  first-step (a ∷ b ∷ c ∷ []) u some h begins = other-word (a ∷ b ∷ c ∷ []) u some h (none-3 (a == 102) (b == 108) (c == 97)) (none-3 (a == 102) (b == 108) (c == 97))
  first-step (a ∷ b ∷ c ∷ d ∷ []) u some h begins =
      other-word (a ∷ b ∷ c ∷ d ∷ []) u some h (none-4 (a == 102) (b == 108) (c == 97) (d == 103)) (none-4 (a == 102) (b == 108) (c == 97) (d == 103))
  first-step (a ∷ b ∷ c ∷ d ∷ e ∷ t) u some h begins = by (begins_with (codes "flags") (a ∷ b ∷ c ∷ d ∷ e ∷ t)) refl
    where
      by : (keyword : Bool) → begins_with (codes "flags") (a ∷ b ∷ c ∷ d ∷ e ∷ t) ≡ keyword
          → said language ((a ∷ b ∷ c ∷ d ∷ e ∷ t) ++ space ∷ u) ≡ said_after (with_word language Absent (a ∷ b ∷ c ∷ d ∷ e ∷ t)) u
      by true is =
          let after_f = and_parts (a == 102) ((b == 108) && ((c == 97) && ((d == 103) && ((e == 115) && true)))) is in
          let after_l = and_parts (b == 108) ((c == 97) && ((d == 103) && ((e == 115) && true))) after_f.1 in
          let after_a = and_parts (c == 97) ((d == 103) && ((e == 115) && true)) after_l.1 in
          let after_g = and_parts (d == 103) ((e == 115) && true) after_a.1 in
          let last = (and_parts (e == 115) true after_g.1).0 in
          let other : (e == backslash) ≡ false = grind (arith, nat_tests) in
          rw is (keyword-step e t u other (escaped-behind 4 0 (a ∷ b ∷ c ∷ d ∷ e ∷ t) e t h refl) begins)
      by false is = other-word (a ∷ b ∷ c ∷ d ∷ e ∷ t) u some h is is

  -- a word has no blank before it
  starts : (t u : List ℕ) → is_empty t ≡ false → are_blanks_escaped 0 t ≡ true → behind_blanks (t ++ space ∷ u) ≡ t ++ space ∷ u
  starts [] u some h = absurd (cc)
  starts (b ∷ t) u some h = rw (not-blank 0 b t refl h) refl

  -- one more word
  word-step : (before : FlagsSoFar) (t u : List ℕ) → is_empty t ≡ false → are_blanks_escaped 0 t ≡ true → behind_blanks u ≡ u
      → said_from before (t ++ space ∷ u) ≡ said_after (with_word language before t) u
  word-step Absent t u some h begins = first-step t u some h begins
  word-step Keyword t u some h begins = ap (said_behind_sign language) (sym (starts t u some h)) ∙ keyword-step 0 t u refl h begins
  word-step Sign t u some h begins = ap (said_in_parentheses language) (sym (starts t u some h)) ∙ sign-step 0 t u refl h begins
  word-step (Listing found) t u some h begins = list-step found 0 t u h
  word-step (Closed found) t u some h begins = let alone = blanks-behind 0 t u refl h in rw (alone, some) refl

  -- one more comma
  comma-step : (before : FlagsSoFar) (u : List ℕ) → said_from before (comma ∷ space ∷ u) ≡ said_after (with_comma before) u
  comma-step Absent u = refl
  comma-step Keyword u = refl
  comma-step Sign u = refl
  comma-step (Listing found) u = list-step found 0 (comma ∷ []) u refl
  comma-step (Closed found) u = refl

  -- a token of FLAGS, by its kind
  word-token : (token : Placed) → token.token.kind ≡ Word → is_flag_token token ≡ true → (is_empty (text_of token) ≡ false) × (are_blanks_escaped 0 (text_of token) ≡ true)
  word-token token e h =
      let there : (not (is_empty (text_of token)) && are_blanks_escaped 0 (text_of token)) ≡ true = rw (is_flag_token, e) at h in
      let parts = and_parts (not (is_empty (text_of token))) (are_blanks_escaped 0 (text_of token)) there in
      (not-true (is_empty (text_of token)) parts.0, parts.1)

  comma-token : (token : Placed) → token.token.kind ≡ Comma → is_flag_token token ≡ true → text_of token ≡ comma ∷ []
  comma-token token e h = let there : bytes_eq (text_of token) (comma ∷ []) ≡ true = rw (is_flag_token, e) at h in (bytes_eq-Decides (text_of token) (comma ∷ [])).0 there

  -- a word or a comma
  by_kind : (token : Placed) (P : Type 0) → (token.token.kind ≡ Word → P) → (token.token.kind ≡ Comma → P) → is_flag_token token ≡ true → P
  by_kind token P word comma h = by token.token.kind refl
    where
      by : (kind : TokenKind) → token.token.kind ≡ kind → P
      by Word e = word e
      by Comma e = comma e
      by (Include if_exists) e = let wrong : false ≡ true = rw (is_flag_token, e) at h in absurd (cc)
      by (Assign append) e = let wrong : false ≡ true = rw (is_flag_token, e) at h in absurd (cc)
      by Value e = let wrong : false ≡ true = rw (is_flag_token, e) at h in absurd (cc)
      by Quoted e = let wrong : false ≡ true = rw (is_flag_token, e) at h in absurd (cc)
      by OpenBrace e = let wrong : false ≡ true = rw (is_flag_token, e) at h in absurd (cc)
      by CloseBrace e = let wrong : false ≡ true = rw (is_flag_token, e) at h in absurd (cc)

  -- the text of FLAGS begins with no blank
  spaced-starts : (tokens : List Placed) → list_all is_flag_token tokens ≡ true → behind_blanks (spaced tokens) ≡ spaced tokens
  spaced-starts [] h = refl
  spaced-starts (token ∷ tokens) h =
      let parts = and_parts (is_flag_token token) (list_all is_flag_token tokens) h in
      by_kind token (behind_blanks (spaced (token ∷ tokens)) ≡ spaced (token ∷ tokens))
      (λ e. let word = word-token token e parts.0 in starts (text_of token) (spaced tokens) word.0 word.1)
      (λ e. rw (comma-token token e parts.0) refl)
      parts.0

  -- what comes of a token, from its kind
  abbrev at_kind : FlagsSoFar → Placed → List Placed → TokenKind → Part (Flags × Placed)
  at_kind before token tokens kind = elim kind [
    | OpenBrace ↦ elim (finished before) [ None ↦ refused BadToken token | Some read ↦ Ok ((read, token), tokens) ]
    | _ ↦ elim (with_token language before token) [ Err refusal ↦ refused refusal token | Ok after ↦ flags_behind language after tokens ]
  ]

  -- FLAGS that end with a brace
  at-brace : (before : FlagsSoFar) (brace : Placed) (rest : List Placed) → brace.token.kind ≡ OpenBrace → IsReadAs (said_from before []) brace rest (flags_behind language before (brace ∷ rest))
  at-brace before brace rest is = subst (IsReadAs (said_from before []) brace rest) (sym (ap (at_kind before brace rest) is)) (by before)
    where
      by : (before : FlagsSoFar)
          → IsReadAs (said_from before []) brace rest (elim (finished before) [ None ↦ refused BadToken brace | Some read ↦ Ok ((read, brace), rest) ])
      by Absent = refl
      by Keyword = refl
      by Sign = refl
      by (Listing found) = refl
      by (Closed found) = refl

  -- what comes of one more token
  abbrev with_found : Placed → List Placed → Result FlagsSoFar GrammarRefusal → Part (Flags × Placed)
  with_found token tokens found = elim found [ Err refusal ↦ refused refusal token | Ok after ↦ flags_behind language after tokens ]

  abbrev found_at : FlagsSoFar → Placed → TokenKind → Result FlagsSoFar GrammarRefusal
  found_at before token kind = elim kind [ Word ↦ with_word language before (text_of token) | Comma ↦ with_comma before | _ ↦ Err BadToken ]

  behind-token : (token brace : Placed) (tokens rest : List Placed) (text : List ℕ) (found : Result FlagsSoFar GrammarRefusal)
      → ((after : FlagsSoFar) → IsReadAs (said_from after text) brace rest (flags_behind language after tokens))
      → IsReadAs (said_after found text) brace rest (with_found token tokens found)
  behind-token token brace tokens rest text (Err refusal) more = refl
  behind-token token brace tokens rest text (Ok after) more = more after

  -- FLAGS are read as their text says
  read-from : (before : FlagsSoFar) (tokens : List Placed) (brace : Placed) (rest : List Placed) → list_all is_flag_token tokens ≡ true → brace.token.kind ≡ OpenBrace
      → IsReadAs (said_from before (spaced tokens)) brace rest (flags_behind language before (tokens ++ brace ∷ rest))
  read-from before [] brace rest h is = at-brace before brace rest is
  read-from before (token ∷ tokens) brace rest h is =
      let parts = and_parts (is_flag_token token) (list_all is_flag_token tokens) h in
      let text = spaced tokens in
      let begins = spaced-starts tokens parts.1 in
      let more : (after : FlagsSoFar) → IsReadAs (said_from after text) brace rest (flags_behind language after (tokens ++ brace ∷ rest)) = λ after. read-from after tokens brace rest parts.1 is in
      by_kind token (IsReadAs (said_from before (spaced (token ∷ tokens))) brace rest (flags_behind language before (token ∷ (tokens ++ brace ∷ rest))))
      (λ e.
      let word = word-token token e parts.0 in
      let step = word-step before (text_of token) text word.0 word.1 begins in
      let read : flags_behind language before (token ∷ (tokens ++ brace ∷ rest)) ≡ with_found token (tokens ++ brace ∷ rest) (with_word language before (text_of token)) =
      ap (λ kind. at_kind before token (tokens ++ brace ∷ rest) kind) e ∙ ap (λ kind. with_found token (tokens ++ brace ∷ rest) (found_at before token kind)) e
      in
      both (sym step) (sym read) (behind-token token brace (tokens ++ brace ∷ rest) rest text (with_word language before (text_of token)) more))
      (λ e.
      let same = comma-token token e parts.0 in
      let step : said_from before (text_of token ++ space ∷ text) ≡ said_after (with_comma before) text = ap (λ first. said_from before (first ++ space ∷ text)) same ∙ comma-step before text in
      let read : flags_behind language before (token ∷ (tokens ++ brace ∷ rest)) ≡ with_found token (tokens ++ brace ∷ rest) (with_comma before) =
      ap (λ kind. at_kind before token (tokens ++ brace ∷ rest) kind) e ∙ ap (λ kind. with_found token (tokens ++ brace ∷ rest) (found_at before token kind)) e
      in
      both (sym step) (sym read) (behind-token token brace (tokens ++ brace ∷ rest) rest text (with_comma before) more))
      parts.0
    where
      both : {said other : Option Flags} {read told : Part (Flags × Placed)} → other ≡ said → told ≡ read → IsReadAs other brace rest told → IsReadAs said brace rest read
      both {said = said} {other = other} {read = read} {told = told} same_said same_read h =
          subst (λ (found : Option Flags). IsReadAs found brace rest read) same_said (subst (λ (part : Part (Flags × Placed)). IsReadAs other brace rest part) same_read h)

  pub read-as-said : (tokens : List Placed) (brace : Placed) (rest : List Placed) → list_all is_flag_token tokens ≡ true → brace.token.kind ≡ OpenBrace
      → IsReadAs (said language (spaced tokens)) brace rest (flags language (tokens ++ brace ∷ rest))
  read-as-said tokens brace rest h is = read-from Absent tokens brace rest h is

  -- blanks before a text change nothing of what stands behind its blanks
  past-blanks : (blanks text : List ℕ) → list_all is_blank blanks ≡ true → behind_blanks (blanks ++ text) ≡ behind_blanks text
  past-blanks [] text h = refl
  past-blanks (b ∷ blanks) text h = let parts = and_parts (is_blank b) (list_all is_blank blanks) h in rw parts.0 (past-blanks blanks text parts.1)

  -- both spellings say the same
  pub spelled-both-ways : (blanks more list : List ℕ) → list_all is_blank blanks ≡ true → list_all is_blank more ≡ true
      → said language (with_keyword blanks more (opening_parenthesis ∷ list)) ≡ said language (opening_parenthesis ∷ list)
  spelled-both-ways blanks more list h g =
      ap (said_behind_sign language) (past-blanks blanks (equals ∷ (more ++ opening_parenthesis ∷ list)) h) ∙ ap (said_in_parentheses language) (past-blanks more (opening_parenthesis ∷ list) g)
