-- What is known of files that are replaced, one after the other.
use Rattle.std.proofs.Common.{◌≡◌, ◌∙◌, ◌+◌, ◌<◌, ℕ, List, [], ◌∷◌, ◌++◌, Option, Some, None, ap, append-nil, append_assoc, drop, get_or, length, map, sym, take}
use Rattle.std.proofs.lemmas.List.{drop_more, map-append, take-append-drop}
use Rattle.aa_text_files.specs.Files.{File}
use Rattle.aatry_test.specs.Stores.{Replaces}

pub Replaces-none : (before : Option (List File)) → Replaces before before []
Replaces-none None = tt
Replaces-none (Some files) = sym (append-nil files)

pub Replaces-then : (before between after : Option (List File)) (first rest : List File) → Replaces before between first → Replaces between after rest
    → Replaces before after (first ++ rest)
Replaces-then None between after first rest one other = tt
Replaces-then (Some before) None after first rest one other = absurd one
Replaces-then (Some before) (Some between) None first rest one other = absurd other
Replaces-then (Some before) (Some between) (Some after) first rest one other = other ∙ ap (λ files. files ++ rest) one ∙ append_assoc before first rest

-- the next of a list stands between those before it and those behind it
pub parted : {X : Type 0} (f : X → File) (xs : List X) (i : ℕ) (x : X) → i < length xs → x ≡ get_or xs i x → map f xs ≡ map f (take i xs) ++ f x ∷ map f (drop (i + 1) xs)
parted f xs i x within is =
    ap (map f) (sym (take-append-drop i xs)) ∙ map-append f (take i xs) (drop i xs)
    ∙ ap (λ rest. map f (take i xs) ++ map f rest) (drop_more xs i x within) ∙ ap (λ y. map f (take i xs) ++ f y ∷ map f (drop (i + 1) xs)) (sym is)
