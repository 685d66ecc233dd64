-- Transitions are the same exactly where they are equal.
use Rattle.std.proofs.Common.{◌≡◌, ℕ, Bool, true, false, ◌&&◌, List, Option, None, Some, ap, refl, subst, sym, ◌∙◌}
use Rattle.std.proofs.lemmas.Slice.Eq.{bytes_eq-Decides}
use Rattle.aa_profile_data.specs.ExecWords.{exec_word, row, same_word}
use Rattle.aa_profile_data.specs.declared.exec_word.ExecWord.{ExecWord}
use Rattle.aa_profile_data.specs.declared.exec_word.ExecWord.TheVariants.{Child, ChildInherit, ChildInheritScrub, ChildScrub, ChildUnconfined, ChildUnconfinedScrub, Inherit, Profile, ProfileInherit, ProfileInheritScrub, ProfileScrub, ProfileUnconfined, ProfileUnconfinedScrub, Unconfined, UnconfinedScrub}
use Rattle.aa_profile_data.specs.Conflicts.{same_target, same_transition}
use Rattle.aa_profile_data.specs.declared.profile.Transition.{Transition}

pub and-both : (a b : Bool) → a ≡ true → b ≡ true → (a && b) ≡ true
and-both false b one other = one
and-both true b one other = other

pub and-first : (a b : Bool) → (a && b) ≡ true → a ≡ true
and-first false b both = both
and-first true b both = refl

pub and-second : (a b : Bool) → (a && b) ≡ true → b ≡ true
and-second false b both = absurd (cc)
and-second true b both = both

-- an exec word is found by its text
word-found : (word : ExecWord) → exec_word (row word).text ≡ Some word
word-found Inherit = refl
word-found Unconfined = refl
word-found UnconfinedScrub = refl
word-found Profile = refl
word-found ProfileScrub = refl
word-found Child = refl
word-found ChildScrub = refl
word-found ProfileInherit = refl
word-found ProfileInheritScrub = refl
word-found ChildInherit = refl
word-found ChildInheritScrub = refl
word-found ProfileUnconfined = refl
word-found ProfileUnconfinedScrub = refl
word-found ChildUnconfined = refl
word-found ChildUnconfinedScrub = refl

word-equal : (one other : ExecWord) → same_word one other ≡ true → one ≡ other
word-equal one other same =
    let texts : (row one).text ≡ (row other).text = (bytes_eq-Decides (row one).text (row other).text).0 same in
    let here = word-found one in
    let there = word-found other in
    let found : exec_word (row one).text ≡ exec_word (row other).text = ap exec_word texts in
    let both : Some one ≡ Some other = sym here ∙ found ∙ there in
    cc

pub target-equal : (one other : Option (List ℕ)) → same_target one other ≡ true → one ≡ other
target-equal None None same = refl
target-equal None (Some other) same = absurd (cc)
target-equal (Some one) None same = absurd (cc)
target-equal (Some one) (Some other) same = ap Some ((bytes_eq-Decides one other).0 same)

pub target-same : (target : Option (List ℕ)) → same_target target target ≡ true
target-same None = refl
target-same (Some bytes) = (bytes_eq-Decides bytes bytes).1 refl

pub same-equal : (one other : Transition) → same_transition one other ≡ true → one ≡ other
same-equal one other same =
    let words = word-equal one.word other.word (and-first (same_word one.word other.word) (same_target one.target other.target) same) in
    let targets = target-equal one.target other.target (and-second (same_word one.word other.word) (same_target one.target other.target) same) in
    let first : one ≡ record one { word = other.word } = ap (λ (word : ExecWord). record one { word = word }) words in
    first ∙ ap (λ (target : Option (List ℕ)). record other { target = target }) targets

pub same-refl : (one : Transition) → same_transition one one ≡ true
same-refl one =
    and-both (same_word one.word one.word) (same_target one.target one.target) ((bytes_eq-Decides (row one.word).text (row one.word).text).1 refl) (target-same one.target)

pub equal-same : (one other : Transition) → one ≡ other → same_transition one other ≡ true
equal-same one other equal = subst (λ (t : Transition). same_transition one t ≡ true) equal (same-refl one)

pub same-sym : (one other : Transition) → same_transition one other ≡ true → same_transition other one ≡ true
same-sym one other same = equal-same other one (sym (same-equal one other same))

pub same-trans : (one other third : Transition) → same_transition one other ≡ true → same_transition other third ≡ true → same_transition one third ≡ true
same-trans one other third here there = equal-same one third (same-equal one other here ∙ same-equal other third there)
