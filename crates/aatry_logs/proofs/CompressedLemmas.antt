-- Logs that gzip wrote.
use Rattle.std.proofs.Common.{◌≡◌, ◌∙◌, ℕ, ◌+◌, ◌==◌, suc, true, false, List, [], ◌∷◌, ◌++◌, Option, None, Some, ap, arith, inl, inr, length, refl, sym}
use Rattle.std.specs.Prelude.{IfSome, string_bytes}
use Rattle.std.proofs.lemmas.Bool.{eqb-true}
use Rattle.std.proofs.lemmas.List.{length-append}
use Rattle.aa_set_commands.specs.Lines.{lines}
use Rattle.aatry_folder.specs.declared.fault.Fault.{Fault}
use Rattle.aatry_logs.specs.OpenedInputs.{GivesLine, kept}
use Rattle.aatry_logs.specs.Compressed.{IsNamedCompressed, IsOfCompressed, begin_compressed, is_compressed}
use Rattle.aatry_logs.specs.Inputs.{AreGiven}
use Rattle.aatry_logs.proofs.InputLemmas.{one_more}

-- what is kept of a line tells whether gzip wrote it
pub kept-tells : (line : List ℕ) → is_compressed (kept line) ≡ is_compressed line
kept-tells [] = refl
kept-tells (a ∷ []) = refl
kept-tells (a ∷ b ∷ rest) = refl

-- one line more begins nothing that the first doesn't
pub begins-more : (given : List (List ℕ)) (held line : List ℕ) (count : ℕ) → length given ≡ count → held ≡ kept line
    → ((count == 0) ≡ true → is_compressed held ≡ false) → begin_compressed given ≡ false → begin_compressed (given ++ line ∷ []) ≡ false
begins-more [] held line count size is plain none =
    sym (kept-tells line) ∙ ap is_compressed (sym is) ∙ plain (ap (λ n. n == 0) (sym size))
begins-more (one ∷ more) held line count size is plain none = none

pub one-longer : (given : List (List ℕ)) (line : List ℕ) (count : ℕ) → length given ≡ count → length (given ++ line ∷ []) ≡ count + 1
one-longer given line count size = omega (arith, length-append given (line ∷ []), size)

-- the first line of an input tells of all
pub first-tells : (before now after : Option (List ℕ)) (given : List (List ℕ)) (waited waits held : List ℕ) (count : ℕ)
    → AreGiven before given now waited → length given ≡ count → GivesLine now after waited waits held true → (count == 0) ≡ true
    → is_compressed held ≡ true → IfSome before (λ bytes. begin_compressed (lines bytes) ≡ true)
first-tells None now after given waited waits held count are size gives first is = tt
first-tells (Some bytes) now None given waited waits held count are size gives first is =
    let step = one_more (Some bytes) now None given waited waits held are gives in absurd (step.2)
first-tells (Some bytes) now (Some left) given waited waits held count are size gives first is =
    let step = one_more (Some bytes) now (Some left) given waited waits held are gives in
    by given step.0 (ap (λ n. n == 0) size ∙ first) step.2 (sym (kept-tells step.0) ∙ ap is_compressed (sym step.1) ∙ is)
  where
    by : (given : List (List ℕ)) (line : List ℕ) → (length given == 0) ≡ true → lines bytes ≡ (given ++ line ∷ []) ++ lines (waits ++ left)
        → is_compressed line ≡ true → begin_compressed (lines bytes) ≡ true
    by [] line none all is = ap begin_compressed all ∙ is
    by (one ∷ more) line none all is = absurd (omega (arith, eqb-true (length (one ∷ more)) 0 none))
