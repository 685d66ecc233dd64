-- The words of a line, from its front.
use Rattle.std.proofs.Common.{◌-◌, take_all, ◌≡◌, ℕ, ◌<◌, ◌≤◌, true, false, List, [], ◌∷◌, ◌++◌, length, Bool, not, Option, Some, None, suc, zero, refl, sym, ap, ◌∙◌, arith, take, drop, take-append-drop, append_assoc, get_or, ◌≢◌, length-append, All}
use Rattle.std.specs.List.{list_any, prefix_len, onto_first}
use Rattle.std.specs.Option.{option_map, IfSome}
use Rattle.std.proofs.lemmas.Bool.{eqb-true, ne_eqb, or_parts, cond-true, cond-false}
use Rattle.std.proofs.lemmas.List.{take_all}
use Rattle.aa_bytes.specs.Texts.{begins, begins_with_byte, has_byte}
use Rattle.aa_set_commands.specs.WordLaws.{quoted_line}
use Rattle.aa_set_commands.specs.Words.{words_of, words_in_word, words_in_quotes, is_word_end, is_quote, is_command_blank}

-- before the first that passes, none does
pub before-none : (p : ℕ → Bool) (xs : List ℕ) → list_any p (take (prefix_len (λ b. not (p b)) xs) xs) ≡ false
before-none p [] = refl
before-none p (x ∷ xs) = by (p x) refl (before-none p xs)
  where
    by : (t : Bool) → p x ≡ t → list_any p (take (prefix_len (λ b. not (p b)) xs) xs) ≡ false → list_any p (take (prefix_len (λ b. not (p b)) (x ∷ xs)) (x ∷ xs)) ≡ false
    by true e rest = let none : prefix_len (λ b. not (p b)) (x ∷ xs) ≡ 0 = rw e refl in ap (λ n. list_any p (take n (x ∷ xs))) none
    by false e rest =
        let more : prefix_len (λ b. not (p b)) (x ∷ xs) ≡ suc (prefix_len (λ b. not (p b)) xs) = rw e (omega arith) in
        ap (λ n. list_any p (take n (x ∷ xs))) more ∙ rw e rest

-- the first byte that passes a test, or the end, stands behind those before it
pub behind-first : (p : ℕ → Bool) (xs : List ℕ) → begins (λ b. not (p b)) (drop (prefix_len (λ b. not (p b)) xs) xs) ≡ false
behind-first p [] = refl
behind-first p (x ∷ xs) = by (p x) refl (behind-first p xs)
  where
    by : (t : Bool) → p x ≡ t → begins (λ b. not (p b)) (drop (prefix_len (λ b. not (p b)) xs) xs) ≡ false → begins (λ b. not (p b)) (drop (prefix_len (λ b. not (p b)) (x ∷ xs)) (x ∷ xs)) ≡ false
    by true e rest =
        let none : prefix_len (λ b. not (p b)) (x ∷ xs) ≡ 0 = rw e refl in
        ap (λ n. begins (λ b. not (p b)) (drop n (x ∷ xs))) none ∙ rw e refl
    by false e rest =
        let more : prefix_len (λ b. not (p b)) (x ∷ xs) ≡ suc (prefix_len (λ b. not (p b)) xs) = rw e (omega arith) in
        ap (λ n. begins (λ b. not (p b)) (drop n (x ∷ xs))) more ∙ rest

-- a word ends where no byte but a blank is next
pub word_end-of : (text : List ℕ) → begins (λ b. not (is_command_blank b)) text ≡ false → is_word_end text ≡ true
word_end-of [] h = refl
word_end-of (b ∷ bs) h = by (is_command_blank b) refl h
  where
    by : (t : Bool) → is_command_blank b ≡ t → not (is_command_blank b) ≡ false → is_command_blank b ≡ true
    by true e h = e
    by false e h = absurd (let wrong : true ≡ false = rw e at h in cc)

-- where bytes are left and no byte but a quote is next, a quote is
pub quote-of : (text : List ℕ) → 1 ≤ length text → begins (λ b. not (is_quote b)) text ≡ false → begins_with_byte 34 text ≡ true
quote-of [] some h = absurd (omega arith)
quote-of (b ∷ bs) some h = by (is_quote b) refl h
  where
    by : (t : Bool) → is_quote b ≡ t → not (is_quote b) ≡ false → is_quote b ≡ true
    by true e h = e
    by false e h = absurd (let wrong : true ≡ false = rw e at h in cc)

-- the bytes after the first
abbrev pub others : List ℕ → List ℕ
others s = take (length s - 1) (drop 1 s)

others-cons : (b : ℕ) (bs : List ℕ) → others (b ∷ bs) ≡ bs
others-cons b bs = grind (arith, take_all)

-- a byte goes onto the word in front
onto_word : (b : ℕ) (w : List ℕ) (words : Option (List (List ℕ))) → option_map (onto_first b) (option_map (λ ws. w ∷ ws) words) ≡ option_map (λ ws. (b ∷ w) ∷ ws) words
onto_word b w None = refl
onto_word b w (Some words) = refl

-- from within a word that ends before the rest
in_word : (w rest : List ℕ) → list_any is_command_blank w ≡ false → is_word_end rest ≡ true → words_in_word (w ++ rest) ≡ option_map (λ ws. w ∷ ws) (words_of rest)
in_word [] [] h e = refl
in_word [] (s ∷ rest) h e = cond-true (is_command_blank s) _ _ e ∙ ap (option_map (λ ws. [] ∷ ws)) (sym (cond-true (is_command_blank s) _ _ e))
in_word (b ∷ w) rest h e =
    let parts = or_parts (is_command_blank b) (list_any is_command_blank w) h in
    cond-false (is_command_blank b) _ _ parts.0 ∙ ap (option_map (onto_first b)) (in_word w rest parts.1 e) ∙ onto_word b w (words_of rest)

-- a plain word, up to a blank or the end, comes before the words behind it
word_then : (b : ℕ) (w rest : List ℕ) → is_quote b ≡ false → list_any is_command_blank (b ∷ w) ≡ false → is_word_end rest ≡ true → words_of ((b ∷ w) ++ rest) ≡ option_map (λ ws. (b ∷ w) ∷ ws) (words_of rest)
word_then b w rest plain h e =
    let parts = or_parts (is_command_blank b) (list_any is_command_blank w) h in
    cond-false (is_command_blank b) _ _ parts.0 ∙ cond-false (is_quote b) _ _ plain ∙ ap (option_map (onto_first b)) (in_word w rest parts.1 e) ∙ onto_word b w (words_of rest)

-- the first word of a text that is cut at the word's end
pub words_of-cut : (text : List ℕ) (n : ℕ) → 1 ≤ length text → get_or text 0 0 ≢ 34 → is_word_end text ≡ false → n ≤ length text → list_any is_command_blank (take n text) ≡ false → is_word_end (drop n text) ≡ true
    → words_of text ≡ option_map (λ ws. take n text ∷ ws) (words_of (drop n text))
words_of-cut [] n some plain begins within h e = absurd (omega arith)
words_of-cut (b ∷ bs) zero some plain begins within h e = absurd (cc)
words_of-cut (b ∷ bs) (suc n) some plain begins within h e =
    let is_plain : is_quote b ≡ false = ne_eqb b 34 plain in
    ap words_of (sym (take-append-drop (suc n) (b ∷ bs))) ∙ word_then b (take n bs) (drop n bs) is_plain h e

-- a text that begins with a quote
pub words_of-quote : (text : List ℕ) → 1 ≤ length text → get_or text 0 0 ≡ 34 → words_of text ≡ words_in_quotes (others text)
words_of-quote [] some quote = absurd (omega arith)
words_of-quote (b ∷ bs) some quote = rw (others-cons b bs, quote) refl

-- from within quotes that close before the rest
in_quotes : (w rest : List ℕ) → list_any is_quote w ≡ false → is_word_end rest ≡ true → words_in_quotes (w ++ 34 ∷ rest) ≡ option_map (λ ws. w ∷ ws) (words_of rest)
in_quotes [] [] h e = refl
in_quotes [] (s ∷ rest) h e = cond-true (is_command_blank s) _ _ e ∙ ap (option_map (λ ws. [] ∷ ws)) (sym (cond-true (is_command_blank s) _ _ e))
in_quotes (b ∷ w) rest h e =
    let parts = or_parts (is_quote b) (list_any is_quote w) h in
    cond-false (is_quote b) _ _ parts.0 ∙ ap (option_map (onto_first b)) (in_quotes w rest parts.1 e) ∙ onto_word b w (words_of rest)

-- quotes that are followed directly
in_quotes-followed : (w rest : List ℕ) → list_any is_quote w ≡ false → is_word_end rest ≡ false → words_in_quotes (w ++ 34 ∷ rest) ≡ None
in_quotes-followed [] [] h e = absurd (cc)
in_quotes-followed [] (s ∷ rest) h e = cond-false (is_command_blank s) _ _ e
in_quotes-followed (b ∷ w) rest h e =
    let parts = or_parts (is_quote b) (list_any is_quote w) h in
    cond-false (is_quote b) _ _ parts.0 ∙ ap (option_map (onto_first b)) (in_quotes-followed w rest parts.1 e)

-- quotes that don't close
in_quotes-open : (w : List ℕ) → list_any is_quote w ≡ false → words_in_quotes w ≡ None
in_quotes-open [] h = refl
in_quotes-open (b ∷ w) h =
    let parts = or_parts (is_quote b) (list_any is_quote w) h in
    cond-false (is_quote b) _ _ parts.0 ∙ ap (option_map (onto_first b)) (in_quotes-open w parts.1)

-- what a text's first quote closes, where a blank or the end is behind it
pub words_in_quotes-closed : (text : List ℕ) (n : ℕ) → list_any is_quote (take n text) ≡ false → begins_with_byte 34 (drop n text) ≡ true → is_word_end (others (drop n text)) ≡ true
    → words_in_quotes text ≡ option_map (λ ws. take n text ∷ ws) (words_of (others (drop n text)))
words_in_quotes-closed text n h quote e = ap words_in_quotes (sym (take-append-drop n text)) ∙ closed (take n text) (drop n text) h quote e
  where
    closed : (w rest : List ℕ) → list_any is_quote w ≡ false → begins_with_byte 34 rest ≡ true → is_word_end (others rest) ≡ true → words_in_quotes (w ++ rest) ≡ option_map (λ ws. w ∷ ws) (words_of (others rest))
    closed w [] h quote e = absurd (cc)
    closed w (b ∷ bs) h quote e =
        let tail : others (b ∷ bs) ≡ bs = others-cons b bs in
        let ends : is_word_end bs ≡ true = ap is_word_end (sym tail) ∙ e in
        rw (tail, eqb-true b 34 quote) (in_quotes w bs h ends)

-- and where something else is
pub words_in_quotes-followed : (text : List ℕ) (n : ℕ) → list_any is_quote (take n text) ≡ false → begins_with_byte 34 (drop n text) ≡ true → is_word_end (others (drop n text)) ≡ false → words_in_quotes text ≡ None
words_in_quotes-followed text n h quote e = ap words_in_quotes (sym (take-append-drop n text)) ∙ followed (take n text) (drop n text) h quote e
  where
    followed : (w rest : List ℕ) → list_any is_quote w ≡ false → begins_with_byte 34 rest ≡ true → is_word_end (others rest) ≡ false → words_in_quotes (w ++ rest) ≡ None
    followed w [] h quote e = absurd (cc)
    followed w (b ∷ bs) h quote e =
        let tail : others (b ∷ bs) ≡ bs = others-cons b bs in
        let ends : is_word_end bs ≡ false = ap is_word_end (sym tail) ∙ e in
        rw (eqb-true b 34 quote) (in_quotes-followed w bs h ends)

-- and where no quote is left
pub words_in_quotes-open : (text : List ℕ) (n : ℕ) → length text ≤ n → list_any is_quote (take n text) ≡ false → words_in_quotes text ≡ None
words_in_quotes-open text n past h = in_quotes-open text (ap (list_any is_quote) (sym (take_all n text past)) ∙ h)

-- words so far, and one more
pub words_more : (front : List (List ℕ)) (word : List ℕ) (words : Option (List (List ℕ))) → option_map (λ more. front ++ more) (option_map (λ ws. word ∷ ws) words) ≡ option_map (λ more. (front ++ word ∷ []) ++ more) words
words_more front word None = refl
words_more front word (Some words) = ap Some (sym (append_assoc front (word ∷ []) words))

-- words so far, and one more than there may be
pub words_many : (most : ℕ) (front : List (List ℕ)) (word : List ℕ) (words whole : Option (List (List ℕ))) → length front ≡ most → option_map (λ more. front ++ more) (option_map (λ ws. word ∷ ws) words) ≡ whole → IfSome whole (λ ws. most < length ws)
words_many most front word None None size h = tt
words_many most front word None (Some whole) size h = absurd (cc)
words_many most front word (Some words) None size h = tt
words_many most front word (Some words) (Some whole) size h =
    let same : front ++ word ∷ words ≡ whole = cc in
    omega (arith, simp length-append at (ap length same))

-- words in quotes, joined by blanks, read back as themselves
pub words_of-quoted_line : (words : List (List ℕ)) → All (λ word. has_byte 34 word ≡ false) words → words_of (quoted_line words) ≡ Some words
words_of-quoted_line [] h = refl
words_of-quoted_line (word ∷ []) h = in_quotes word [] (h 0 [] (omega arith)) refl
words_of-quoted_line (word ∷ next ∷ words) h =
    let rest : List ℕ = 32 ∷ quoted_line (next ∷ words) in
    ap words_in_quotes (append_assoc word (34 ∷ []) rest)
    ∙ in_quotes word rest (h 0 [] (omega arith)) refl
    ∙ ap (option_map (λ ws. word ∷ ws)) (words_of-quoted_line (next ∷ words) (λ k d within. h (suc k) d (omega (arith, within))))
