-- What is loaded of one file more.
use Rattle.std.proofs.Common.{◌≡◌, ◌∙◌, ◌<◌, ◌+◌, ℕ, Bool, true, false, List, [], ◌∷◌, ◌++◌, Option, inl, inr, add-one, ap, append_assoc, get_or, length, map, refl, subst, sym, take}
use Rattle.std.proofs.Math.Seq.{take-suc}
use Rattle.std.proofs.lemmas.List.{append-nil, map-append}
use Rattle.aa_profile_parsing.specs.declared.language.Language.{Language}
use Rattle.aa_text_files.specs.Files.{File}
use Rattle.aatry_session_run.specs.Session.{LoadsEach, LoadsOne, Standing, settled}
use Rattle.aatry_session.specs.Turns.{Kept}
use Rattle.aa_start.specs.Known.{Known}
use Rattle.aatry_session_run.specs.Ends.{IsEndOfSession}
use Rattle.aatry_folder.specs.declared.fault.Fault.{Fault}
use Rattle.aatry_folder.specs.declared.fault.Fault.TheVariants as fault
use Rattle.aa_profile.specs.FileReading.{file_profiles_in}
use Rattle.aatry_folder.specs.Loadings.{TopFile}
use Rattle.aatry_folder.specs.declared.loading.Loading.TheVariants.{ByFlags}
use Rattle.aatry_policy.specs.Policies.{profile_names}
use Rattle.aatry_session.specs.Switching.{all_switched}
use Rattle.aatry_folder.specs.Told.{ToldFolders}
use Rattle.aatry_session_run.specs.Broken.{IsBrokenRun, IsBrokenStep}

-- where some files are loaded, and behind them one more, all these are
pub loads_one_more : (language : Language) (files : List File) (base : List ℕ) (before : Kept) (top : List TopFile) (mid : Kept) (lines : List ℕ) (file : TopFile) (after : Kept) (more : List ℕ)
    → LoadsEach language files base before top mid lines → LoadsOne language files base mid file after more
    → LoadsEach language files base before (top ++ file ∷ []) after (lines ++ more)
loads_one_more language files base before [] mid lines file after more loaded one = (
  after,
  more,
  [],
  ap (λ t. t ++ more) loaded.1 ∙ sym (append-nil more),
  subst (λ kept. LoadsOne language files base kept file after more) loaded.0 one,
  (refl, refl),
)
loads_one_more language files base before (first ∷ top) mid lines file after more (next, own, rest, put, loaded, behind) one = (
  next,
  own,
  rest ++ more,
  ap (λ t. t ++ more) put ∙ append_assoc own rest more,
  loaded,
  loads_one_more language files base next top mid rest file after more behind one,
)

-- the next of a list stands behind those so far
pub next_taken : {S T : Type 0} (f : S → T) (xs : List S) (i : ℕ) (x : S) → i < length xs → x ≡ get_or xs i x
    → map f (take (i + 1) xs) ≡ map f (take i xs) ++ f x ∷ []
next_taken f xs i x within is = rw (add-one, take-suc xs i x within, map-append, sym is)

-- the fault that ended the run of a session's lines is one that a session may end with
pub run_ends : (folders : ToldFolders) (known : Known) (base prompt : List ℕ) (first : Standing) (after : Option (List ℕ)) (told : Fault)
    → IsBrokenRun folders known base prompt first after told → IsEndOfSession folders base told
run_ends folders known base prompt first after told (lines, before, answered, inl broken) = step_ends told broken
  where
    step_ends : (told : Fault) → IsBrokenStep folders known base prompt before after told → IsEndOfSession folders base told
    step_ends fault.Read broken = inr (inl refl)
    step_ends fault.NoMemory broken = inl tt
    step_ends fault.Write broken = inr (inr refl)
    step_ends fault.BadArguments broken = absurd broken
    step_ends fault.BadQuestion broken = absurd broken
    step_ends (fault.Unreadable name) broken = absurd broken
    step_ends fault.TooMany broken = absurd broken
    step_ends (fault.Compressed name) broken = absurd broken
run_ends folders known base prompt first after told (lines, before, answered, inr (many, written, is)) = inr (inl is)

-- where a file is loaded by the flags of its profiles none is changed
pub none_switched : (kept : Kept) (names : List (List ℕ)) → all_switched ByFlags kept names ≡ kept
none_switched kept [] = refl
none_switched kept (name ∷ names) = none_switched kept names

pub none_settled : (language : Language) (files : List File) (file : TopFile) (taken : Bool) (kept : Kept) → file.loading ≡ ByFlags
    → settled language files file taken kept ≡ kept
none_settled language files file true kept by_flags =
    ap (λ loading. all_switched loading kept (profile_names (file_profiles_in language files file.name))) by_flags
    ∙ none_switched kept (profile_names (file_profiles_in language files file.name))
none_settled language files file false kept by_flags = refl
