-- Runs of slashes, byte by byte.
use Rattle.std.proofs.Common.{◌≡◌, ℕ, ◌==◌, ◌&&◌, Bool, true, false, cond, if◌then◌else◌, List, [], ◌∷◌, refl, sym, ap, ◌∙◌}
use Rattle.std.specs.List.{dedup, dedup_from}
use Rattle.std.proofs.lemmas.Bool.{eqb-true}
use Rattle.aa_bytes.specs.Bytes.{slash}
use Rattle.aa_glob_syntax.specs.Slashes.{collapsed}

-- a byte stays, or is gone where it is one slash of a run and what is left is the same without it
one-more : (second first : Bool) (byte : ℕ) (without without' kept kept' : List ℕ) → (second ≡ true → first ≡ true → without ≡ without') → kept ≡ kept'
    → cond (second && first) without (byte ∷ kept) ≡ (if first && second then without' else byte ∷ kept')
one-more true true byte without without' kept kept' gone stays = gone refl refl
one-more true false byte without without' kept kept' gone stays = ap (λ rest. byte ∷ rest) stays
one-more false true byte without without' kept kept' gone stays = ap (λ rest. byte ∷ rest) stays
one-more false false byte without without' kept kept' gone stays = ap (λ rest. byte ∷ rest) stays

-- the last byte stays
last-stays : (test : Bool) (byte : ℕ) → byte ∷ [] ≡ (if test && false then [] else byte ∷ [])
last-stays true byte = refl
last-stays false byte = refl

-- the same of all that come behind a byte
behind-collapses : (before : ℕ) (bytes : List ℕ) → dedup_from (λ byte before. byte == slash && before == slash) before bytes ≡ collapsed (before ∷ bytes)
behind-collapses before [] = last-stays (before == slash) before
behind-collapses before (byte ∷ bytes) = one-more (byte == slash) (before == slash) before _ _ _ _
    (λ second first. behind-collapses before bytes ∙ ap (λ b. collapsed (b ∷ bytes)) (eqb-true before slash first ∙ sym (eqb-true byte slash second)))
    (behind-collapses byte bytes)

-- a text in which no slash is left behind another is one in which each run of slashes is one slash
pub dedup_collapses : (text : List ℕ) → dedup (λ byte before. byte == slash && before == slash) text ≡ collapsed text
dedup_collapses [] = refl
dedup_collapses (first ∷ bytes) = behind-collapses first bytes
