-- Sizes that are counted from a text's front on, byte by byte.
use Rattle.std.proofs.Common.{◌≡◌, ◌≢◌, ℕ, ◌+◌, ◌-◌, ◌<◌, ◌≤◌, ◌==◌, ◌&&◌, not, List, [], ◌∷◌, length, get_or, take, drop, Option, None, Some, refl, sym, ap, ◌∙◌, arith, inl, inr}
use Rattle.std.specs.Option.{option_map}
use Rattle.std.proofs.lemmas.List.{take_all, length-drop}
use Rattle.std.proofs.lemmas.Bool.{cases_Bool, ne_eqb}
use Rattle.aa_bytes.specs.Bytes.{backslash, line_feed, quote}
use Rattle.aa_text_tokens.specs.Cut.{before_quote}
use Rattle.aa_text_tokens.specs.code.Pieces.{taken}

-- a size, behind so many bytes
abbrev pub further : ℕ → Option ℕ → Option ℕ
further size None = None
further size (Some n) = Some (n + size)

pub further-zero : (o : Option ℕ) → further 0 o ≡ o
further-zero None = refl
further-zero (Some n) = let same : n + 0 ≡ n = omega arith in ap Some same

pub further-more : (size more : ℕ) (o : Option ℕ) → further size (option_map (λ n. n + more) o) ≡ further (size + more) o
further-more size more None = refl
further-more size more (Some n) = let same : n + more + size ≡ n + (size + more) = omega arith in ap Some same

-- the rest of a text, as a slice has it
pub rest-drop : (n : ℕ) (text : List ℕ) → take (length text - n) (drop n text) ≡ drop n text
rest-drop n text = let size = length-drop n text in take_all (length text - n) (drop n text) (omega arith)

pub rest-length : (size n : ℕ) (text : List ℕ) → n ≤ length text → size + n + length (take (length text - n) (drop n text)) ≡ size + length text
rest-length size n text within = let size = length-drop n text in rw rest-drop (omega arith)

-- bytes that neither close a text nor end its line
before_quote-taken : (text : List ℕ) → 0 < length text → get_or text 0 0 ≢ quote → get_or text 0 0 ≢ line_feed
    → before_quote text ≡ option_map (λ n. n + taken text) (before_quote (drop (taken text) text))
before_quote-taken [] some h l = absurd (omega arith)
before_quote-taken (b ∷ []) some h l = rw (ne_eqb b quote h) refl
before_quote-taken (b ∷ c ∷ bs) some h l =
    rw (ne_eqb b quote h, ne_eqb b line_feed l) (elim (cases_Bool (b == backslash && not (c == line_feed))) [ inl both ↦ rw both refl | inr one ↦ rw one refl ])

-- and what stands before the quote is what it was
pub before_quote-on : (size : ℕ) (text : List ℕ) → 0 < length text → get_or text 0 0 ≢ quote → get_or text 0 0 ≢ line_feed
    → further (size + taken text) (before_quote (take (length text - taken text) (drop (taken text) text))) ≡ further size (before_quote text)
before_quote-on size text some h l =
    ap (λ rest. further (size + taken text) (before_quote rest)) (rest-drop (taken text) text)
    ∙ sym (further-more size (taken text) (before_quote (drop (taken text) text)))
    ∙ ap (further size) (sym (before_quote-taken text some h l))
