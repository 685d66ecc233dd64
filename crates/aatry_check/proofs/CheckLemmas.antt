-- What is told of one file more.
use Rattle.std.proofs.Common.{◌≡◌, ◌∙◌, ◌<◌, ◌+◌, ℕ, List, [], ◌∷◌, ◌++◌, add-one, ap, append_assoc, drop, drop-cons, get_or, length, map, refl, sym, take}
use Rattle.std.proofs.Math.Seq.{take-suc}
use Rattle.std.proofs.lemmas.List.{append-nil, map-append}
use Rattle.std.specs.Prelude.{Option}
use Rattle.aa_profile_parsing.specs.declared.language.Language.{Language}
use Rattle.aa_text_files.specs.Files.{File}
use Rattle.aa_start.specs.declared.readable.UnreadFault.{UnreadFault}
use Rattle.aatry_check.specs.Checks.{Tells, TellsEach}
use Rattle.aatry_folder.specs.Loadings.{TopFile}
use Rattle.aatry_report.specs.declared.form.Form.{Form}

-- lines that tell each of some files, and behind them lines that tell one more, tell each of all these
pub tells_one_more : (form : Form) (language : Language) (files : List File) (unread : List (Option UnreadFault)) (base : List ℕ) (top : List TopFile) (names : List (List ℕ)) (lines name more : List ℕ)
    → TellsEach form language files unread base top names lines → Tells form language files unread base top name more
    → TellsEach form language files unread base top (names ++ name ∷ []) (lines ++ more)
tells_one_more form language files unread base top [] lines name more told tells = (more, [], ap (λ t. t ++ more) told ∙ sym (append-nil more), tells, refl)
tells_one_more form language files unread base top (x ∷ names) lines name more told tells =
    (told.0, told.1 ++ more, ap (λ t. t ++ more) told.2 ∙ append_assoc told.0 told.1 more, told.3, tells_one_more form language files unread base top names told.1 name more told.4 tells)

-- the next of a list stands before those that are left behind it
pub next_left : {S : Type 0} (f : S → List ℕ) (xs : List S) (i : ℕ) (x : S) → i < length xs → x ≡ get_or xs i x
    → map f (drop i xs) ≡ f x ∷ map f (drop (i + 1) xs)
next_left f xs i x within is = rw (add-one, drop-cons xs i x within, sym is)

-- the next of a list stands behind those so far
pub next_taken : {S : Type 0} (f : S → List ℕ) (xs : List S) (i : ℕ) (x : S) → i < length xs → x ≡ get_or xs i x
    → map f (take (i + 1) xs) ≡ map f (take i xs) ++ f x ∷ []
next_taken f xs i x within is = rw (add-one, take-suc xs i x within, map-append, sym is)
