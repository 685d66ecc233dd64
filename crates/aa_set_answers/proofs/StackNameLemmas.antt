-- Names that the code keeps in order.
use Rattle.std.proofs.Common.{◌≡◌, ℕ, Bor, List, [], ◌∷◌, map, refl, ap}
use Rattle.std.specs.BTreeSet.{insert_key}
use Rattle.std.specs.Cmp.Lexicographic.{slice_cmp}
use Rattle.std.specs.Ordering.{match_ordering, nat_cmp}
use Rattle.std.specs.declared.cmp.Ordering.{Ordering}
use Rattle.std.specs.declared.cmp.Ordering.TheVariants.{Equal, Greater, Less}
use Rattle.aa_set_answers.specs.StackNames.{put_name}

-- the bytes of names
abbrev pub bytes_of : List (Bor (List ℕ)) → List (List ℕ)
bytes_of names = map (λ name. name.now) names

-- how the code compares them
abbrev pub compared : Bor (List ℕ) → Bor (List ℕ) → Ordering
compared one other = slice_cmp nat_cmp one.now other.now

-- a name that is put among them
pub bytes-put : (names : List (Bor (List ℕ))) (name : Bor (List ℕ)) → bytes_of (insert_key compared names name) ≡ put_name (bytes_of names) name.now
bytes-put [] name = refl
bytes-put (first ∷ names) name = by (slice_cmp nat_cmp name.now first.now) (bytes-put names name)
  where
    by : (order : Ordering) → bytes_of (insert_key compared names name) ≡ put_name (bytes_of names) name.now
        → bytes_of (match_ordering order (name ∷ first ∷ names) (first ∷ names) (first ∷ insert_key compared names name))
        ≡ match_ordering order (name.now ∷ first.now ∷ bytes_of names) (first.now ∷ bytes_of names) (first.now ∷ put_name (bytes_of names) name.now)
    by Less rest = refl
    by Equal rest = refl
    by Greater rest = ap (λ names. first.now ∷ names) rest
