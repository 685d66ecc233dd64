-- What the steps of the code say of a text's parts.
use Rattle.std.proofs.Common.{◌≡◌, ℕ, suc, ◌+◌, ◌<◌, ◌==◌, ◌&&◌, ◌≤◌, Bool, true, false, not, List, [], ◌∷◌, ◌++◌, map, length, get_or, take, drop, Some, refl, sym, ap, ◌∙◌, append_assoc, append-nil, arith, inl, inr}
use Rattle.std.specs.List.{prefix_len}
use Rattle.std.proofs.lemmas.Bool.{cases_Bool, false_from_ne_true}
use Rattle.aa_bytes.specs.Bytes.{at_sign, backslash, closing_brace, opening_brace}
use Rattle.aa_text_expansion.specs.code.TextParts.{begins_name, plain_size, taken}
use Rattle.aa_text_expansion.specs.Parts.{Byte, Name, Unclosed, parts, parts_behind}

-- how many bytes a name has that a text begins with
abbrev pub name_len : List ℕ → ℕ
name_len text = prefix_len (λ b. not (b == closing_brace)) text

-- a name that is closed, and what follows it
pub parts-closed : (name text : List ℕ) → name_len text < length text
    → Name (name ++ take (name_len text) text) ∷ parts (drop (name_len text + 1) text) ≡ parts_behind (Some name) text
parts-closed name [] h = absurd (omega arith)
parts-closed name (b ∷ bs) h = by (b == closing_brace) refl h (parts-closed (name ++ b ∷ []) bs)
  where
    by : (t : Bool) → (b == closing_brace) ≡ t → name_len (b ∷ bs) < length (b ∷ bs)
        → (name_len bs < length bs → Name ((name ++ b ∷ []) ++ take (name_len bs) bs) ∷ parts (drop (name_len bs + 1) bs) ≡ parts_behind (Some (name ++ b ∷ [])) bs)
        → Name (name ++ take (name_len (b ∷ bs)) (b ∷ bs)) ∷ parts (drop (name_len (b ∷ bs) + 1) (b ∷ bs)) ≡ parts_behind (Some name) (b ∷ bs)
    by true e h rest = rw e (ap (λ l. Name l ∷ parts bs) (append-nil name))
    by false e h rest =
        let size : name_len (b ∷ bs) ≡ suc (name_len bs) = rw e (omega arith) in
        let next : suc (name_len bs) + 1 ≡ suc (name_len bs + 1) = omega arith in
        let within : name_len bs < length bs = omega (arith, h, size) in
        rw (size, next, e) (ap (λ l. Name l ∷ parts (drop (name_len bs + 1) bs)) (sym (append_assoc name (b ∷ []) (take (name_len bs) bs))) ∙ rest within)

-- a name that isn't closed
pub parts-open : (name text : List ℕ) → length text < name_len text + 1 → Unclosed ∷ [] ≡ parts_behind (Some name) text
parts-open name [] h = refl
parts-open name (b ∷ bs) h = by (b == closing_brace) refl h (parts-open (name ++ b ∷ []) bs)
  where
    by : (t : Bool) → (b == closing_brace) ≡ t → length (b ∷ bs) < name_len (b ∷ bs) + 1
        → (length bs < name_len bs + 1 → Unclosed ∷ [] ≡ parts_behind (Some (name ++ b ∷ [])) bs)
        → Unclosed ∷ [] ≡ parts_behind (Some name) (b ∷ bs)
    by true e h rest =
        let size : name_len (b ∷ bs) ≡ 0 = rw e refl in
        absurd (omega (arith, h, size))
    by false e h rest =
        let size : name_len (b ∷ bs) ≡ 1 + name_len bs = rw e refl in
        let within : length bs < name_len bs + 1 = omega (arith, h, size) in
        rw e (rest within)

-- a text that begins with a name
pub parts-name : (text : List ℕ) → begins_name text ≡ true → parts_behind (Some []) (drop 2 text) ≡ parts text
parts-name [] h = cc
parts-name (b ∷ []) h = cc
parts-name (b ∷ c ∷ bs) h = rw h refl

-- where no name begins, the bytes that stand together stand for themselves
pub plain_size-taken : (text : List ℕ) → 0 < length text → begins_name text ≡ false → plain_size text ≡ taken text + plain_size (drop (taken text) text)
plain_size-taken [] some h = absurd (omega arith)
plain_size-taken (b ∷ []) some h = refl
plain_size-taken (b ∷ c ∷ bs) some h = rw h (elim (cases_Bool (b == backslash)) [ inl slash ↦ rw slash refl | inr plain ↦ rw plain refl ])

-- where a name begins, or nothing is left, none do
pub plain_size-name : (text : List ℕ) → begins_name text ≡ true → plain_size text ≡ 0
plain_size-name [] h = refl
plain_size-name (b ∷ []) h = absurd (cc)
plain_size-name (b ∷ c ∷ bs) h = rw h refl

-- where no name begins, there are some
pub plain_size-some : (text : List ℕ) → 0 < length text → begins_name text ≡ false → 1 ≤ plain_size text
plain_size-some [] some h = absurd (omega arith)
plain_size-some (b ∷ []) some h = omega arith
plain_size-some (b ∷ c ∷ bs) some h = rw h (elim (cases_Bool (b == backslash)) [ inl slash ↦ rw slash (omega arith) | inr plain ↦ rw plain (omega arith) ])

-- where there is no byte with which a name begins, all are before the first
pub plain_size-no_at : (text : List ℕ) → ((k : ℕ) → k < length text → (get_or text k 0 == at_sign) ≡ true → ⊥) → plain_size text ≡ length text
plain_size-no_at [] none = refl
plain_size-no_at (b ∷ []) none = refl
plain_size-no_at (b ∷ c ∷ bs) none =
    let first : (b == at_sign) ≡ false = false_from_ne_true (b == at_sign) (none 0 (omega arith)) in
    let two : plain_size bs ≡ length bs = plain_size-no_at bs (λ k below. none (suc (suc k)) (omega arith)) in
    let one : plain_size (c ∷ bs) ≡ length (c ∷ bs) = plain_size-no_at (c ∷ bs) (λ k below. none (suc k) (omega arith)) in
    elim (cases_Bool (b == backslash)) [ inl slash ↦ rw (first, slash) (omega (arith, two)) | inr plain ↦ rw (first, plain) (omega (arith, one)) ]

-- the bytes before the first name, and the parts behind them
pub parts-text : (text : List ℕ) → map Byte (take (plain_size text) text) ++ parts (drop (plain_size text) text) ≡ parts text
parts-text [] = refl
parts-text (b ∷ []) = refl
parts-text (b ∷ c ∷ bs) = by (b == at_sign && c == opening_brace) refl (b == backslash) refl (parts-text bs) (parts-text (c ∷ bs))
  where
    by : (name : Bool) → (b == at_sign && c == opening_brace) ≡ name → (slash : Bool) → (b == backslash) ≡ slash
        → map Byte (take (plain_size bs) bs) ++ parts (drop (plain_size bs) bs) ≡ parts bs
        → map Byte (take (plain_size (c ∷ bs)) (c ∷ bs)) ++ parts (drop (plain_size (c ∷ bs)) (c ∷ bs)) ≡ parts (c ∷ bs)
        → map Byte (take (plain_size (b ∷ c ∷ bs)) (b ∷ c ∷ bs)) ++ parts (drop (plain_size (b ∷ c ∷ bs)) (b ∷ c ∷ bs)) ≡ parts (b ∷ c ∷ bs)
    by true n slash s two one =
        let none : plain_size (b ∷ c ∷ bs) ≡ 0 = rw n refl in
        ap (λ size. map Byte (take size (b ∷ c ∷ bs)) ++ parts (drop size (b ∷ c ∷ bs))) none
    by false n true s two one =
        let size : 2 + plain_size bs ≡ suc (suc (plain_size bs)) = omega arith in
        rw (n, s, size) (ap (λ ps. Byte b ∷ Byte c ∷ ps) two)
    by false n false s two one =
        let size : 1 + plain_size (c ∷ bs) ≡ suc (plain_size (c ∷ bs)) = omega arith in
        rw (n, s, size) (ap (λ ps. Byte b ∷ ps) one)
