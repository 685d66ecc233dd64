-- What a program makes of the kinds of error of a parse.
use Rattle.std.proofs.Common.{◌≡◌, ◌⊎◌, inl, inr, [], ◌∷◌, subst}
use Rattle.std.specs.Prelude.{Err, false, true}
use Rattle.aa_start.specs.Given.{IsFaultFor, IsGivenFor}
use Rattle.aa_start.specs.Options.{Asked, ForHelp, ForThis, ForVersion, Nothing}
use Rattle.aa_start.specs.Parsing.{AreBad, is_bad}
use Rattle.aa_start.specs.declared.fault.ArgumentFault.{ArgumentFault}
use Rattle.aa_start.specs.declared.fault.ArgumentFault.TheVariants.{Help, Version, Bad, Memory}
use Rattle.clap.specs.Kinds.{IsAmong, Kinds}
use Rattle.clap.specs.declared.error.kind.ErrorKind.{ErrorKind}
use Rattle.clap.specs.declared.error.kind.ErrorKind.TheVariants as kind

-- the kinds of error, by what is asked for
abbrev pub AreKindsFor : {A : Type 0} → Asked A → Kinds → Type 0
AreKindsFor (ForThis thing) kinds = kinds ≡ []
AreKindsFor ForHelp kinds = kinds ≡ kind.DisplayHelp ∷ []
AreKindsFor ForVersion kinds = kinds ≡ kind.DisplayVersion ∷ []
AreKindsFor Nothing kinds = AreBad kinds

-- memory may run out whatever is asked for
pub memory_given : {A B : Type 0} (meant : B → A) (asked : Asked A) → IsGivenFor meant asked (Err Memory)
memory_given meant (ForThis thing) = tt
memory_given meant ForHelp = tt
memory_given meant ForVersion = tt
memory_given meant Nothing = tt

-- a kind of error, and what it is to the program
abbrev pub Fails : Kinds → ArgumentFault → Type 0
Fails kinds fault = (k : ErrorKind) × ((k ≡ kind.OutOfMemory) ⊎ IsAmong k kinds) × IsFaultFor k fault

memory_answers : {A B : Type 0} (meant : B → A) (a : Asked A) (fault : ArgumentFault) → IsFaultFor kind.OutOfMemory fault → IsGivenFor meant a (Err fault)
memory_answers meant a Memory f = memory_given meant a
memory_answers meant a (Help text) f = absurd f
memory_answers meant a (Version text) f = absurd f
memory_answers meant a Bad f = absurd f

help_answers : {A B : Type 0} (meant : B → A) (fault : ArgumentFault) → IsFaultFor kind.DisplayHelp fault → IsGivenFor meant ForHelp (Err fault)
help_answers meant Memory f = tt
help_answers meant (Help text) f = tt
help_answers meant (Version text) f = absurd f
help_answers meant Bad f = absurd f

version_answers : {A B : Type 0} (meant : B → A) (fault : ArgumentFault) → IsFaultFor kind.DisplayVersion fault → IsGivenFor meant ForVersion (Err fault)
version_answers meant Memory f = tt
version_answers meant (Version text) f = tt
version_answers meant (Help text) f = absurd f
version_answers meant Bad f = absurd f

-- a bad kind is a bad argument
bad_answers : {A B : Type 0} (meant : B → A) (k : ErrorKind) (fault : ArgumentFault) → is_bad k ≡ true → IsFaultFor k fault → IsGivenFor meant Nothing (Err fault)
bad_answers meant k Bad b f = tt
bad_answers meant k Memory b f = tt
bad_answers meant k (Help text) b f = absurd (no_text k b f)
  where
    no_text : (k : ErrorKind) → is_bad k ≡ true → IsFaultFor k (Help text) → ⊥
    no_text kind.DisplayHelp b f = absurd (let bad : false ≡ true = b in cc)
    no_text kind.DisplayVersion b f = absurd (let bad : false ≡ true = b in cc)
    no_text kind.OutOfMemory b f = absurd (let bad : false ≡ true = b in cc)
    no_text k b f = f
bad_answers meant k (Version text) b f = absurd (no_text k b f)
  where
    no_text : (k : ErrorKind) → is_bad k ≡ true → IsFaultFor k (Version text) → ⊥
    no_text kind.DisplayHelp b f = absurd (let bad : false ≡ true = b in cc)
    no_text kind.DisplayVersion b f = absurd (let bad : false ≡ true = b in cc)
    no_text kind.OutOfMemory b f = absurd (let bad : false ≡ true = b in cc)
    no_text k b f = f

-- an error of a kind that comes where this is asked for is a fault that may be answered there
pub fault_answers : {A B : Type 0} (meant : B → A) (a : Asked A) (kinds : Kinds) (fault : ArgumentFault) → AreKindsFor a kinds → Fails kinds fault
    → IsGivenFor meant a (Err fault)
fault_answers meant a kinds fault are (k, inl none, f) = memory_answers meant a fault (subst (λ k. IsFaultFor k fault) none f)
fault_answers meant (ForThis thing) kinds fault are (k, inr among, f) = absurd (rw are at among)
fault_answers meant ForHelp kinds fault are (k, inr among, f) = elim (rw are at among) [
  | inl is ↦ help_answers meant fault (subst (λ k. IsFaultFor k fault) is f)
  | inr none ↦ absurd none
]
fault_answers meant ForVersion kinds fault are (k, inr among, f) = elim (rw are at among) [
  | inl is ↦ version_answers meant fault (subst (λ k. IsFaultFor k fault) is f)
  | inr none ↦ absurd none
]
fault_answers meant Nothing kinds fault are (k, inr among, f) = let is = are.1 in elim (rw is at among) [
  | inl is ↦ bad_answers meant are.0 fault are.2 (subst (λ k. IsFaultFor k fault) is f)
  | inr none ↦ absurd none
]
