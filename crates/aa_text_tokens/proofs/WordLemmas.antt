-- The bytes of a word, from its front on.
use Rattle.std.proofs.Common.{◌≡◌, ℕ, ◌+◌, ◌-◌, ◌==◌, ◌&&◌, ◌||◌, Bool, true, false, List, [], ◌∷◌, length, get_or, take, drop, Option, None, Some, refl, sym, ap, ◌∙◌, inl, inr}
use Rattle.std.specs.Prelude.{not, if◌then◌else◌}
use Rattle.std.specs.Option.{option_map}
use Rattle.std.proofs.lemmas.Bool.{cases_Bool, and_parts, eqb-true}
use Rattle.aa_bytes.specs.Bytes.{backslash, is_blank, line_feed}
use Rattle.aa_text_tokens.specs.Cut.{depth_behind, ends_word, word_left}
use Rattle.aa_text_tokens.specs.code.Pieces.{goes_on, taken}
use Rattle.aa_text_tokens.proofs.SizeLemmas.{further, further-more, rest-drop}

-- the choices of a word that goes on
goes : (blank outside ends : Bool) (blanks here more : Option ℕ) → (not blank && (not outside || not ends)) ≡ true → (if blank then blanks else (if outside && ends then here else more)) ≡ more
goes true outside ends blanks here more h = absurd (cc)
goes false true true blanks here more h = absurd (cc)
goes false true false blanks here more h = refl
goes false false ends blanks here more h = refl

-- the last byte of a text
last_byte : (outside : Bool) → (if outside then Some 1 else None) ≡ option_map (λ n. n + 1) (if outside then Some 0 else None)
last_byte true = refl
last_byte false = refl

-- a backslash is no brace
depth-backslash : (depth b : ℕ) → (b == backslash) ≡ true → depth ≡ depth_behind depth b
depth-backslash depth b h = rw (eqb-true b backslash h) refl

-- where it goes on, the bytes that stand together are of it
word_left-taken : (depth before : ℕ) (text : List ℕ) → goes_on depth before text ≡ true
    → word_left depth before text ≡ option_map (λ n. n + taken text) (word_left (depth_behind depth (get_or text 0 0)) (get_or text (taken text - 1) 0) (drop (taken text) text))
word_left-taken depth before [] h = absurd (cc)
word_left-taken depth before (b ∷ []) h = goes (is_blank b) (depth == 0) (ends_word before b []) _ _ _ h ∙ last_byte (depth_behind depth b == 0)
word_left-taken depth before (b ∷ c ∷ bs) h =
    goes (is_blank b) (depth == 0) (ends_word before b (c ∷ bs)) _ _ _ h
    ∙ (elim (cases_Bool (b == backslash && not (c == line_feed))) [
      | inl both ↦ rw both (ap (λ d. option_map (λ n. n + 2) (word_left d c bs)) (depth-backslash depth b (and_parts (b == backslash) (not (c == line_feed)) both).0))
      | inr one ↦ rw one refl
    ])

-- and what is left of the word is what it was
pub word_left-on : (size depth before : ℕ) (text : List ℕ) → goes_on depth before text ≡ true
    → further (size + taken text) (word_left (depth_behind depth (get_or text 0 0)) (get_or text (taken text - 1) 0) (take (length text - taken text) (drop (taken text) text))) ≡ further size (word_left depth before text)
word_left-on size depth before text h =
    let deeper = depth_behind depth (get_or text 0 0) in
    let last = get_or text (taken text - 1) 0 in
    ap (λ rest. further (size + taken text) (word_left deeper last rest)) (rest-drop (taken text) text)
    ∙ sym (further-more size (taken text) (word_left deeper last (drop (taken text) text)))
    ∙ ap (further size) (sym (word_left-taken depth before text h))
