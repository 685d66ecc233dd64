-- The names that come of others, one's behind the other's.
use Rattle.std.proofs.Common.{◌≡◌, ◌+◌, ◌<◌, ℕ, List, [], ◌∷◌, ◌++◌, refl, length, take, get_or, ap, sym, subst, append_assoc, ◌∙◌, arith}
use Rattle.std.specs.Prelude.{IsTrue, MatchBool}
use Rattle.std.proofs.lemmas.List.{append-nil, take-append-le, take_more}
use Rattle.aatry_folder.specs.Members.{is_folder, names_in}
use Rattle.aatry_folder.specs.Told.{ToldFolders}
use Rattle.aatry_folder.specs.NamesBelow.{Answer, AreAnswers, MayHave, names_answered, path_of}
use Rattle.aatry_folder.specs.code.Step.{ComeOf, IsListing}

-- what comes of one more name stands behind the rest
pub IsListing-push : (told : ToldFolders) (base : List ℕ) (others names : List (List ℕ)) (name : List ℕ) (more : List (List ℕ))
    → IsListing told base others names → ComeOf told base name more
    → IsListing told base (others ++ name ∷ []) (names ++ more)
IsListing-push told base [] names name more none come =
    (more, [], come, ap (λ front. front ++ more) none ∙ sym (append-nil more), refl)
IsListing-push told base (other ∷ others) names name more (own, rest, first, stands, listing) come = (
  own,
  rest ++ more,
  first,
  ap (λ front. front ++ more) stands ∙ append_assoc own rest more,
  IsListing-push told base others rest name more listing come,
)

-- a step of the walk: what comes of the name at a place stands behind all names
pub IsListing-step : (told : ToldFolders) (base : List ℕ) (names after more : List (List ℕ)) (at : ℕ) → at < length names
    → ComeOf told base (get_or names at []) more → after ≡ names ++ more
    → IsListing told base ([] ∷ take at names) names → IsListing told base ([] ∷ take (at + 1) after) after
IsListing-step told base names after more at within come stands listing =
    let pushed = IsListing-push told base ([] ∷ take at names) names (get_or names at []) more listing come in
    let front : take (at + 1) (names ++ more) ≡ take at names ++ get_or names at [] ∷ [] =
    take-append-le (at + 1) names more (omega arith) ∙ take_more names at [] within in
    subst (λ all. IsListing told base ([] ∷ take (at + 1) all) all) (sym stands)
    (subst (λ read. IsListing told base ([] ∷ read) (names ++ more)) (sym front) pushed)

-- a folder's members are those that it is told to have
pub told_members : (told : ToldFolders) (base folder : List ℕ) (members : List (List ℕ)) → IsTrue (is_folder folder) → MayHave told base folder members
    → told.HasMembers (path_of base folder) members
told_members told base folder members is_one may =
    subst (λ b. MatchBool b (told.HasMembers (path_of base folder) members) (members ≡ [])) is_one may

-- names that come of others are those of the members that are answered of these
pub IsListing-answers : (told : ToldFolders) (base : List ℕ) (others names : List (List ℕ)) → IsListing told base others names
    → (answers : List Answer) × AreAnswers told base others answers × (names ≡ names_answered answers)
IsListing-answers told base [] names none = ([], refl, none)
IsListing-answers told base (name ∷ others) names (own, more, (members, may, owned), stands, listing) =
    let rest = IsListing-answers told base others more listing in (
      record { name = name; members = members } ∷ rest.0,
      (members, rest.0, may, refl, rest.1),
      stands ∙ ap (λ front. front ++ more) owned ∙ ap (λ behind. names_in name members ++ behind) rest.2,
    )
