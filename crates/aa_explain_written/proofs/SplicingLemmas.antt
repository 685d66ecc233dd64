-- The tokens of a file without includes.
use Rattle.std.proofs.Common.{◌≡◌, ℕ, suc, ◌+◌, ◌≤◌, Bool, true, false, not, List, [], ◌∷◌, length, Option, None, Some, Ok, refl, ap, ◌∙◌, arith, inl, inr, nat_le}
use Rattle.std.specs.Str.{bytes_eq}
use Rattle.std.specs.List.{list_all}
use Rattle.std.proofs.lemmas.Bool.{and_parts, cases_Bool, le-leb}
use Rattle.aa_bytes.specs.Texts.{has_byte}
use Rattle.aa_text_files.specs.Files.{File, bytes_at, bytes_of, file_at, file_named, index_from, is_folder_name}
use Rattle.aa_text_files.specs.Limit.{most_bytes}
use Rattle.aa_text_tokens.specs.Splicing.{Way, and_then, entered, spliced, tokens_of, walked, within}
use Rattle.aa_text_tokens.specs.Cut.{cut}
use Rattle.aa_text_tokens.specs.declared.cut.TokenKind.{TokenKind}
use Rattle.aa_text_tokens.specs.declared.cut.TokenKind.TheVariants.{Assign, CloseBrace, Comma, Include, OpenBrace, Quoted, Value, Word}
use Rattle.aa_explain_written.proofs.Spelling.{Bare, Spans, placed_at, seen_at}

abbrev pub is_include : TokenKind → Bool
is_include (Include if_exists) = true
is_include _ = false

-- none of some tokens is an Include
abbrev pub are_own : List Bare → Bool
are_own tokens = list_all (λ token. not (is_include token.kind)) tokens

-- a token that is no Include, before others
walked-token : (files : List File) (way : Way) (file : ℕ) (spans : Spans) (kind : TokenKind) (text : List ℕ) (tokens : List Bare) (total : ℕ) → not (is_include kind) ≡ true
    → walked files way file (seen_at (λ index. spans (suc index)) tokens) total ≡ Ok (placed_at file (λ index. spans (suc index)) tokens, total)
    → walked files way file (seen_at spans (record { kind = kind; text = text } ∷ tokens)) total ≡ Ok (placed_at file spans (record { kind = kind; text = text } ∷ tokens), total)
unfolding walked and_then
walked-token files way file spans (Include if_exists) text tokens total own more = absurd cc
walked-token files way file spans (Assign append) text tokens total own more = rw more refl
walked-token files way file spans Value text tokens total own more = rw more refl
walked-token files way file spans Quoted text tokens total own more = rw more refl
walked-token files way file spans Word text tokens total own more = rw more refl
walked-token files way file spans Comma text tokens total own more = rw more refl
walked-token files way file spans OpenBrace text tokens total own more = rw more refl
walked-token files way file spans CloseBrace text tokens total own more = rw more refl

-- tokens of which none is an Include
walked-own : (files : List File) (way : Way) (file : ℕ) (spans : Spans) (tokens : List Bare) (total : ℕ) → are_own tokens ≡ true
    → walked files way file (seen_at spans tokens) total ≡ Ok (placed_at file spans tokens, total)
unfolding walked
walked-own files way file spans [] total own = refl
walked-own files way file spans (token ∷ tokens) total own =
    let both = and_parts (not (is_include token.kind)) (are_own tokens) own in
    walked-token files way file spans token.kind token.text tokens total both.0 (walked-own files way file (λ index. spans (suc index)) tokens total both.1)

-- where a file stands that can be read under a name
named-at : (first : ℕ) (files : List File) (name bytes : List ℕ) → file_named files name ≡ Some bytes
    → (place : ℕ) × (index_from first name files ≡ Some (first + place)) × (bytes_at files place ≡ bytes)
named-at first [] name bytes h = absurd cc
named-at first (file ∷ files) name bytes h = elim (cases_Bool (bytes_eq name file.0)) [
  | inl is ↦
      let same : Some file.1 ≡ Some bytes = rw is at h in
      let zero_more : first ≡ first + 0 = omega arith in
      (0, rw is (ap Some zero_more), cc)
  | inr not ↦
      let (place, at, own) = named-at (first + 1) files name bytes (rw not at h) in
      let further : first + 1 + place ≡ first + suc place = omega arith in
      (suc place, rw not (at ∙ ap Some further), own)
]

-- a file of such tokens that is entered
entered-own : (files : List File) (way : Way) (file : ℕ) (spans : Spans) (tokens : List Bare) → nat_le (0 + length (bytes_at files file)) most_bytes ≡ true → has_byte 0 (bytes_at files file) ≡ false
    → cut 0 0 false (bytes_at files file) ≡ Ok (seen_at spans tokens) → are_own tokens ≡ true
    → entered files way file 0 None ≡ Ok (placed_at file spans tokens, 0 + length (bytes_at files file))
unfolding entered
entered-own files way file spans tokens room whole spelled own = rw (room, whole, spelled) (walked-own files way file spans tokens (0 + length (bytes_at files file)) own)

-- the tokens of a file that has no includes
spliced-at : (files : List File) (name : List ℕ) (file : ℕ) (spans : Spans) (tokens : List Bare) → file_at files name ≡ Some file
    → nat_le (0 + length (bytes_at files file)) most_bytes ≡ true → has_byte 0 (bytes_at files file) ≡ false
    → cut 0 0 false (bytes_at files file) ≡ Ok (seen_at spans tokens) → are_own tokens ≡ true → spliced files name ≡ Ok (placed_at file spans tokens)
unfolding spliced within
spliced-at files name file spans tokens found room whole spelled own =
    rw (found, spliced) (ap tokens_of (entered-own files (Some (within files 15)) file spans tokens room whole spelled own))

pub spliced-own : (files : List File) (name bytes : List ℕ) (tokens : List Bare) → bytes_of files name ≡ Some bytes → length bytes ≤ most_bytes → has_byte 0 bytes ≡ false
    → are_own tokens ≡ true → (spans : Spans) → cut 0 0 false bytes ≡ Ok (seen_at spans tokens)
    → (file : ℕ) × (spliced files name ≡ Ok (placed_at file spans tokens))
spliced-own files name bytes tokens there fits whole own spans spelled = elim (cases_Bool (is_folder_name name)) [
  | inl folder ↦ let none : ◌≡◌ {A = Option (List ℕ)} None (Some bytes) = rw folder at there in absurd cc
  | inr plain ↦
      let (place, at, is) = named-at 0 files name bytes (rw plain at there) in
      let room : nat_le (0 + length (bytes_at files (0 + place))) most_bytes ≡ true =
      let same : 0 + place ≡ place = omega arith in rw (same, is) (le-leb _ _ (omega arith)) in
      let own_bytes : bytes_at files (0 + place) ≡ bytes = let same : 0 + place ≡ place = omega arith in rw same is in (
        0 + place,
        spliced-at files name (0 + place) spans tokens (rw plain at) room (ap (has_byte 0) own_bytes ∙ whole) (ap (cut 0 0 false) own_bytes ∙ spelled) own,
      )
]
