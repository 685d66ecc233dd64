-- Texts that are cut at each `//&`.
use Rattle.std.proofs.Common.{◌≡◌, ℕ, zero, suc, Bool, true, false, List, [], ◌∷◌, ◌++◌, Option, None, Some, codes, drop, refl, sym, ap, ◌∙◌}
use Rattle.std.specs.List.{onto_first}
use Rattle.aa_bytes.specs.Texts.{begins_with}
use Rattle.std.specs.Prelude.{if◌then◌else◌, is_none}
use Rattle.aa_profile_data.specs.Stacks.{parts_behind, parts_of, parts_of_rest, stack_of_names}

-- parts, with a text put before the first
abbrev pub onto : List ℕ → List (List ℕ) → List (List ℕ)
onto [] parts = parts
onto (b ∷ front) parts = onto_first b (onto front parts)

-- a text and one more byte
pub onto-more : (front : List ℕ) (b : ℕ) (parts : List (List ℕ)) → onto (front ++ b ∷ []) parts ≡ onto front (onto_first b parts)
onto-more [] b parts = refl
onto-more (c ∷ front) b parts = ap (onto_first c) (onto-more front b parts)

-- where the first part is empty, it is that text
pub onto-cut : (front : List ℕ) (parts : List (List ℕ)) → onto front ([] ∷ parts) ≡ front ∷ parts
onto-cut [] parts = refl
onto-cut (b ∷ front) parts = ap (onto_first b) (onto-cut front parts)

-- the parts behind some bytes are those of what stands behind them
parts-skipped : (skipped : ℕ) (text : List ℕ) → parts_behind skipped text ≡ parts_of (drop skipped text)
parts-skipped zero text = refl
parts-skipped (suc skipped) [] = refl
parts-skipped (suc skipped) (b ∷ bs) = parts-skipped skipped bs

-- a text that begins with `//&` is cut there
pub cut-here : (text : List ℕ) → begins_with (codes "//&") text ≡ true → parts_of text ≡ [] ∷ parts_of (drop 3 text)
cut-here [] h = absurd (cc)
cut-here (b ∷ bs) h = rw h (ap (λ (parts : List (List ℕ)). [] ∷ parts) (parts-skipped 2 bs))

-- another one is cut behind its first byte
pub cut-behind : (b : ℕ) (bs : List ℕ) → begins_with (codes "//&") (b ∷ bs) ≡ false → parts_of (b ∷ bs) ≡ onto_first b (parts_of bs)
cut-behind b bs h = rw h refl

-- there is always a part
pub parts-some : (skipped : ℕ) (text : List ℕ) → (first : List ℕ) × (more : List (List ℕ)) × (parts_behind skipped text ≡ first ∷ more)
parts-some skipped [] = ([], [], refl)
parts-some (suc skipped) (b ∷ bs) = parts-some skipped bs
parts-some zero (b ∷ bs) = by (begins_with (codes "//&") (b ∷ bs)) refl (parts-some zero bs)
  where
    by : (t : Bool) → begins_with (codes "//&") (b ∷ bs) ≡ t → (first : List ℕ) × (more : List (List ℕ)) × (parts_behind zero bs ≡ first ∷ more)
        → (first : List ℕ) × (more : List (List ℕ)) × (parts_behind zero (b ∷ bs) ≡ first ∷ more)
    by true e some = ([], parts_behind 2 bs, rw e refl)
    by false e (first, more, is) = (b ∷ first, more, rw e (ap (onto_first b) is))

-- a text of some parts is a stack's where more than one is there
pub stack-of_parts : (text first : List ℕ) (rest : Option (List ℕ)) → parts_of text ≡ first ∷ parts_of_rest rest
    → stack_of_names (parts_of text) ≡ (if is_none rest then None else Some (record { on_base = false; members = parts_of text }))
stack-of_parts text first None is = ap stack_of_names is
stack-of_parts text first (Some rest) is =
    let (other, more, some) = parts-some zero rest in
    let two : parts_of text ≡ first ∷ other ∷ more = is ∙ ap (λ (parts : List (List ℕ)). first ∷ parts) some in
    ap stack_of_names two ∙ ap (λ (parts : List (List ℕ)). Some (record { on_base = false; members = parts })) (sym two)
