-- Texts that name the same members of a stack are the same.
use Rattle.std.proofs.Common.{◌≡◌, ℕ, zero, suc, Bool, true, false, List, [], ◌∷◌, ◌++◌, codes, drop, refl, sym, ◌∙◌, ap, take, take-append-drop}
use Rattle.std.specs.Prelude.{flat_map}
use Rattle.std.specs.List.{onto_first}
use Rattle.std.specs.Str.{bytes_eq}
use Rattle.std.proofs.lemmas.Slice.Eq.{bytes_eq-Decides}
use Rattle.aa_bytes.specs.Texts.{begins_with}
use Rattle.aa_profile_data.specs.Stacks.{parts_behind, parts_of}
use Rattle.aa_explain_start_changes.specs.code.Same.{same_members}
use Rattle.aa_explain_start_changes.proofs.SameLemmas.{members-is, members-self}

-- parts with `//&` between them
abbrev joined : List (List ℕ) → List ℕ
joined [] = []
joined (part ∷ parts) = part ++ flat_map (λ more. codes "//&" ++ more) parts

-- there is always a part
parts-some : (skipped : ℕ) (text : List ℕ) → (first : List ℕ) × (more : List (List ℕ)) × (parts_behind skipped text ≡ first ∷ more)
parts-some skipped [] = ([], [], refl)
parts-some (suc skipped) (b ∷ bs) = parts-some skipped bs
parts-some zero (b ∷ bs) = by (begins_with (codes "//&") (b ∷ bs)) refl (parts-some zero bs)
  where
    by : (t : Bool) → begins_with (codes "//&") (b ∷ bs) ≡ t → (first : List ℕ) × (more : List (List ℕ)) × (parts_behind zero bs ≡ first ∷ more)
        → (first : List ℕ) × (more : List (List ℕ)) × (parts_behind zero (b ∷ bs) ≡ first ∷ more)
    by true e some = ([], parts_behind 2 bs, rw e refl)
    by false e (first, more, is) = (b ∷ first, more, rw e (ap (onto_first b) is))

-- those behind an empty first one
joined-cut : (parts first : List (List ℕ)) (one : List ℕ) → parts ≡ one ∷ first → joined ([] ∷ parts) ≡ codes "//&" ++ joined parts
joined-cut parts more one is = ap (λ (l : List (List ℕ)). joined ([] ∷ l)) is ∙ ap (λ (l : List (List ℕ)). codes "//&" ++ joined l) (sym is)

-- those with a byte put before the first
joined-onto : (parts more : List (List ℕ)) (one : List ℕ) (b : ℕ) → parts ≡ one ∷ more → joined (onto_first b parts) ≡ b ∷ joined parts
joined-onto parts more one b is = ap (λ (l : List (List ℕ)). joined (onto_first b l)) is ∙ ap (λ (l : List (List ℕ)). b ∷ joined l) (sym is)

-- the parts of a text are joined to it
joined-behind : (skipped : ℕ) (text : List ℕ) → joined (parts_behind skipped text) ≡ drop skipped text
joined-behind zero [] = refl
joined-behind (suc skipped) [] = refl
joined-behind (suc skipped) (b ∷ bs) = joined-behind skipped bs
joined-behind zero (b ∷ bs) = by (begins_with (codes "//&") (b ∷ bs)) refl (joined-behind 2 bs) (joined-behind zero bs)
  where
    by : (t : Bool) → begins_with (codes "//&") (b ∷ bs) ≡ t → joined (parts_behind 2 bs) ≡ drop 2 bs → joined (parts_behind zero bs) ≡ bs
        → joined (parts_behind zero (b ∷ bs)) ≡ b ∷ bs
    by true e two rest =
        let cut : parts_behind zero (b ∷ bs) ≡ [] ∷ parts_behind 2 bs = rw e refl in
        let (first, more, is) = parts-some 2 bs in
        let front : take 3 (b ∷ bs) ≡ codes "//&" = (bytes_eq-Decides (take 3 (b ∷ bs)) (codes "//&")).0 e in
        ap joined cut ∙ joined-cut (parts_behind 2 bs) more first is ∙ ap (λ l. codes "//&" ++ l) two
        ∙ ap (λ l. l ++ drop 2 bs) (sym front) ∙ take-append-drop 3 (b ∷ bs)
    by false e two rest =
        let (first, more, is) = parts-some zero bs in
        let more-of : parts_behind zero (b ∷ bs) ≡ onto_first b (parts_of bs) = rw e refl in
        ap joined more-of ∙ joined-onto (parts_of bs) more first b is ∙ ap (λ l. b ∷ l) rest

-- so texts of the same parts are the same
members-text : (one other : List ℕ) → parts_of one ≡ parts_of other → one ≡ other
members-text one other same = sym (joined-behind zero one) ∙ ap joined same ∙ joined-behind zero other

-- and by their texts it is told whether members are the same
pub members-test : (one other : List ℕ) → bytes_eq one other ≡ same_members (parts_of one) (parts_of other)
members-test one other = by (bytes_eq one other) (same_members (parts_of one) (parts_of other)) refl refl
  where
    by : (b c : Bool) → bytes_eq one other ≡ b → same_members (parts_of one) (parts_of other) ≡ c → b ≡ c
    by true true e same = refl
    by false false e same = refl
    by true false e same =
        let text = (bytes_eq-Decides one other).0 e in
        sym (members-self (parts_of one)) ∙ ap (λ t. same_members (parts_of one) (parts_of t)) text ∙ same
    by false true e same =
        let text = members-text one other (members-is (parts_of one) (parts_of other) same) in
        sym e ∙ (bytes_eq-Decides one other).1 text
