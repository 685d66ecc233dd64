-- Leads have one class exactly where their transitions are the same.
use Rattle.std.proofs.Common.{◌≡◌, ◌⊎◌, ℕ, zero, suc, ◌<◌, ◌≤◌, Bool, true, false, List, [], ◌∷◌, ◌++◌, length, Option, None, Some, arith, ap, refl, sym, subst, ◌∙◌, inl, inr}
use Rattle.std.specs.Prelude.{if◌then◌else◌, is_none, slice_get, slice_index_or}
use Rattle.std.specs.Borrow.{Bor}
use Rattle.std.specs.Str.{bytes_eq}
use Rattle.std.proofs.lemmas.Slice.Eq.{bytes_eq-Decides}
use Rattle.aa_bytes.specs.NameMaps.{GivesNumber, number_of}
use Rattle.aa_bytes.specs.declared.name_map.NameMap.{NameMap}
use Rattle.std.proofs.lemmas.List.{length-map, map-append}
use Rattle.std.proofs.lemmas.Option.{slice_get_within, slice_get_past}
use Rattle.aa_profile_data.proofs.TransitionLemmas.{same-equal, same-refl, same-sym, same-trans}
use Rattle.aa_profile_conflicts.specs.Classes.{AreClassesBy, AreDifferent, AreKeyed, HaveClasses, IsNew, is_class_of, key_of, seen_transitions}
use Rattle.aa_profile_data.specs.Conflicts.{Lead, same_transition}
use Rattle.aa_profile_data.specs.declared.profile.Transition.{Transition}

-- what stands at a place of a list with one more behind it
get-front : {X : Type 0} (xs : List X) (y : X) (k : ℕ) (x : X) → slice_get xs k ≡ Some x → slice_get (xs ++ y ∷ []) k ≡ Some x
get-front [] y k x is = absurd (cc)
get-front (z ∷ zs) y zero x is = is
get-front (z ∷ zs) y (suc k) x is = get-front zs y k x is

get-last : {X : Type 0} (xs : List X) (y : X) → slice_get (xs ++ y ∷ []) (length xs) ≡ Some y
get-last [] y = refl
get-last (z ∷ zs) y = get-last zs y

get-cases : {X : Type 0} (xs : List X) (y : X) (k : ℕ) (x : X) → slice_get (xs ++ y ∷ []) k ≡ Some x → (slice_get xs k ≡ Some x) ⊎ ((k ≡ length xs) × (y ≡ x))
get-cases [] y zero x is = inr (refl, (let same : y ≡ x = cc in same))
get-cases [] y (suc k) x is = absurd (cc)
get-cases (z ∷ zs) y zero x is = inl is
get-cases (z ∷ zs) y (suc k) x is = elim (get-cases zs y k x is) [ inl front ↦ inl front | inr last ↦ inr ((let e = last.0 in omega arith), last.1) ]

-- the transition of a class
pub class-own : (transitions : List Transition) (class : ℕ) (transition : Transition) → is_class_of transitions class transition ≡ true
    → (own : Transition) × (slice_get transitions class ≡ Some own) × (same_transition own transition ≡ true)
class-own transitions class transition is = by (slice_get transitions class) refl is
  where
    by : (found : Option Transition) → slice_get transitions class ≡ found → elim found [ None ↦ false | Some own ↦ same_transition own transition ] ≡ true
        → (own : Transition) × (slice_get transitions class ≡ Some own) × (same_transition own transition ≡ true)
    by None e is = absurd (cc)
    by (Some own) e is = (own, e, is)

class-from : (transitions : List Transition) (class : ℕ) (transition own : Transition) → slice_get transitions class ≡ Some own → same_transition own transition ≡ true
    → is_class_of transitions class transition ≡ true
class-from transitions class transition own there same =
    ap (λ (found : Option Transition). elim found [ None ↦ false | Some other ↦ same_transition other transition ]) there ∙ same

-- a transition more keeps the classes
class-front : (transitions : List Transition) (more : Transition) (class : ℕ) (transition : Transition) → is_class_of transitions class transition ≡ true
    → is_class_of (transitions ++ more ∷ []) class transition ≡ true
class-front transitions more class transition is =
    let (own, there, same) = class-own transitions class transition is in
    class-from (transitions ++ more ∷ []) class transition own (get-front transitions more class own there) same

-- past the last there is none
pub class-past : (transitions : List Transition) (class : ℕ) (transition : Transition) → length transitions ≤ class → is_class_of transitions class transition ≡ false
class-past transitions class transition past =
    ap (λ (found : Option Transition). elim found [ None ↦ false | Some other ↦ same_transition other transition ]) (slice_get_past transitions class past)

have-front : (transitions : List Transition) (more : Transition) (leads : List Lead) (classes : List ℕ) → HaveClasses transitions leads classes
    → HaveClasses (transitions ++ more ∷ []) leads classes
have-front transitions more [] [] have = tt
have-front transitions more [] (class ∷ classes) have = absurd have
have-front transitions more (lead ∷ leads) [] have = absurd have
have-front transitions more (lead ∷ leads) (class ∷ classes) have =
    (class-front transitions more class lead.transition have.0, have-front transitions more leads classes have.1)

-- one lead more, with its class
have-more : (transitions : List Transition) (leads : List Lead) (classes : List ℕ) (lead : Lead) (class : ℕ) → HaveClasses transitions leads classes
    → is_class_of transitions class lead.transition ≡ true → HaveClasses transitions (leads ++ lead ∷ []) (classes ++ class ∷ [])
have-more transitions [] [] lead class have is = (is, tt)
have-more transitions [] (one ∷ classes) lead class have is = absurd have
have-more transitions (other ∷ leads) [] lead class have is = absurd have
have-more transitions (other ∷ leads) (one ∷ classes) lead class have is = (have.0, have-more transitions leads classes lead class have.1 is)

pub classes-none : AreClassesBy [] [] []
classes-none = record { different = λ class another one other here there same. absurd (cc); have = tt }

pub classes-known : (leads : List Lead) (transitions : List Transition) (classes : List ℕ) (lead : Lead) (class : ℕ) → AreClassesBy leads transitions classes
    → is_class_of transitions class lead.transition ≡ true → AreClassesBy (leads ++ lead ∷ []) transitions (classes ++ class ∷ [])
classes-known leads transitions classes lead class are is = record { different = are.different; have = have-more transitions leads classes lead class are.have is }

-- a new transition is another one than those before
different-more : (transitions : List Transition) (more : Transition) → AreDifferent transitions → IsNew transitions more → AreDifferent (transitions ++ more ∷ [])
different-more transitions more different new class another one other here there same =
    elim (get-cases transitions more class one here) [
      | inl front ↦ elim (get-cases transitions more another other there) [
        | inl behind ↦ different class another one other front behind same
        | inr last ↦ absurd (clash class one front (rw last.1 same))
      ]
      | inr first ↦ elim (get-cases transitions more another other there) [
        | inl behind ↦ absurd (clash another other behind (rw first.1 (same-sym one other same)))
        | inr last ↦ first.0 ∙ sym last.0
      ]
    ]
  where
    clash : (k : ℕ) (own : Transition) → slice_get transitions k ≡ Some own → same_transition own more ≡ true → ⊥
    clash k own at is = let yes = class-from transitions k more own at is in let no = new k in absurd (cc)

pub classes-new : (leads : List Lead) (transitions : List Transition) (classes : List ℕ) (lead : Lead) → AreClassesBy leads transitions classes
    → IsNew transitions lead.transition → same_transition lead.transition lead.transition ≡ true
    → AreClassesBy (leads ++ lead ∷ []) (transitions ++ lead.transition ∷ []) (classes ++ length transitions ∷ [])
classes-new leads transitions classes lead are new self = record {
  different = different-more transitions lead.transition are.different new;
  have =
      have-more (transitions ++ lead.transition ∷ []) leads classes lead (length transitions) (have-front transitions lead.transition leads classes are.have)
      (class-from (transitions ++ lead.transition ∷ []) (length transitions) lead.transition lead.transition (get-last transitions lead.transition) self);
}

-- the same of transitions as the code has them
pub classes-pushed : (transitions : List (Bor Transition)) (transition : Bor Transition) (leads : List Lead) (classes : List ℕ) (lead : Lead) → lead.transition ≡ transition.now
    → AreClassesBy leads (seen_transitions transitions) classes → IsNew (seen_transitions transitions) transition.now
    → AreClassesBy (leads ++ lead ∷ []) (seen_transitions (transitions ++ transition ∷ [])) (classes ++ length transitions ∷ [])
classes-pushed transitions transition leads classes lead is are new =
    let plain : seen_transitions (transitions ++ transition ∷ []) ≡ seen_transitions transitions ++ lead.transition ∷ [] =
    map-append (λ (t : Bor Transition). t.now) transitions (transition ∷ []) ∙ ap (λ (t : Transition). seen_transitions transitions ++ t ∷ []) (sym is) in
    let count : length (seen_transitions transitions) ≡ length transitions = length-map transitions (λ (t : Bor Transition). t.now) in
    let fresh : IsNew (seen_transitions transitions) lead.transition = subst (λ (t : Transition). IsNew (seen_transitions transitions) t) (sym is) new in
    subst (λ (ts : List Transition). AreClassesBy (leads ++ lead ∷ []) ts (classes ++ length transitions ∷ [])) (sym plain)
    (subst (λ (n : ℕ). AreClassesBy (leads ++ lead ∷ []) (seen_transitions transitions ++ lead.transition ∷ []) (classes ++ n ∷ [])) count
    (classes-new leads (seen_transitions transitions) classes lead are fresh (same-refl lead.transition)))

-- there are as many classes as leads
pub have-length : (transitions : List Transition) (leads : List Lead) (classes : List ℕ) → HaveClasses transitions leads classes → length leads ≡ length classes
have-length transitions [] [] have = refl
have-length transitions [] (class ∷ classes) have = absurd have
have-length transitions (lead ∷ leads) [] have = absurd have
have-length transitions (lead ∷ leads) (class ∷ classes) have = let rest = have-length transitions leads classes have.1 in omega arith

pub have-at : (transitions : List Transition) (leads : List Lead) (classes : List ℕ) (k : ℕ) (lead : Lead) → HaveClasses transitions leads classes → slice_get leads k ≡ Some lead
    → is_class_of transitions (slice_index_or classes k 0) lead.transition ≡ true
have-at transitions [] classes k lead have there = absurd (cc)
have-at transitions (one ∷ leads) [] k lead have there = absurd have
have-at transitions (one ∷ leads) (class ∷ classes) zero lead have there = let same : one ≡ lead = cc in rw (sym same) have.0
have-at transitions (one ∷ leads) (class ∷ classes) (suc k) lead have there = have-at transitions leads classes k lead have.1 there

module _ (leads : List Lead) (transitions : List Transition) (classes : List ℕ) (are : AreClassesBy leads transitions classes) (j k : ℕ) (one other : Lead)
    (one_there : slice_get leads j ≡ Some one) (other_there : slice_get leads k ≡ Some other) where
  class-of-one : (own : Transition) × (slice_get transitions (slice_index_or classes j 0) ≡ Some own) × (same_transition own one.transition ≡ true)
  class-of-one = class-own transitions (slice_index_or classes j 0) one.transition (have-at transitions leads classes j one are.have one_there)

  class-of-other : (own : Transition) × (slice_get transitions (slice_index_or classes k 0) ≡ Some own) × (same_transition own other.transition ≡ true)
  class-of-other = class-own transitions (slice_index_or classes k 0) other.transition (have-at transitions leads classes k other are.have other_there)

  pub same-of-classes : slice_index_or classes j 0 ≡ slice_index_or classes k 0 → same_transition one.transition other.transition ≡ true
  same-of-classes alike =
      let (own, at, same) = class-of-one in
      let (further, there, also) = class-of-other in
      let here : slice_get transitions (slice_index_or classes k 0) ≡ Some own = ap (slice_get transitions) (sym alike) ∙ at in
      let equal : own ≡ further = cc in
      let same_one : same_transition further one.transition ≡ true = rw (sym equal) same in
      same-trans one.transition further other.transition (same-sym further one.transition same_one) also

  pub classes-of-same : same_transition one.transition other.transition ≡ true → slice_index_or classes j 0 ≡ slice_index_or classes k 0
  classes-of-same alike =
      let (own, at, same) = class-of-one in
      let (further, there, also) = class-of-other in
      are.different (slice_index_or classes j 0) (slice_index_or classes k 0) own further at there
      (same-trans own one.transition further same (same-trans one.transition other.transition further alike (same-sym further other.transition also)))

  -- of fewer than two transitions each is the same as each
  pub same-of-few : length transitions < 2 → same_transition one.transition other.transition ≡ true
  same-of-few few =
      let first = slice_get_within transitions (slice_index_or classes j 0) class-of-one.0 class-of-one.1 in
      let second = slice_get_within transitions (slice_index_or classes k 0) class-of-other.0 class-of-other.1 in
      same-of-classes (omega arith)

-- of a transition whose key has no number there is no class
pub unkeyed-new : (transitions : List Transition) (map : NameMap) (transition : Transition) → AreKeyed transitions map → number_of map (key_of transition) ≡ None
    → IsNew transitions transition
unkeyed-new transitions map transition keyed unkeyed class = by (is_class_of transitions class transition) refl
  where
    by : (found : Bool) → is_class_of transitions class transition ≡ found → is_class_of transitions class transition ≡ false
    by false e = e
    by true e =
        let (own, there, same) = class-own transitions class transition e in
        let has : is_none (number_of map (key_of own)) ≡ false = keyed class own there in
        let equal : own ≡ transition = same-equal own transition same in
        let none : is_none (number_of map (key_of own)) ≡ true = rw (equal, unkeyed) refl in
        absurd (cc)

pub keyed-none : (map : NameMap) → AreKeyed [] map
keyed-none map class own there = absurd (cc)

-- who has a number keeps one, and the given name has one
gives-others : (before after : NameMap) (name other : List ℕ) (number : ℕ) → GivesNumber before name number after → is_none (number_of before other) ≡ false
    → is_none (number_of after other) ≡ false
gives-others before after name other number gives has = ap is_none (gives other) ∙ by (bytes_eq name other)
  where
    by : (same : Bool) → is_none (if same then Some number else number_of before other) ≡ false
    by true = refl
    by false = has

gives-own : (before after : NameMap) (name : List ℕ) (number : ℕ) → GivesNumber before name number after → is_none (number_of after name) ≡ false
gives-own before after name number gives =
    ap is_none (gives name) ∙ ap (λ (same : Bool). is_none (if same then Some number else number_of before name)) ((bytes_eq-Decides name name).1 refl)

keyed-more : (transitions : List Transition) (more : Transition) (before after : NameMap) (number : ℕ) → AreKeyed transitions before
    → GivesNumber before (key_of more) number after → AreKeyed (transitions ++ more ∷ []) after
keyed-more transitions more before after number keyed gives class own there =
    elim (get-cases transitions more class own there) [
      | inl front ↦ gives-others before after (key_of more) (key_of own) number gives (keyed class own front)
      | inr last ↦ subst (λ (t : Transition). is_none (number_of after (key_of t)) ≡ false) last.1 (gives-own before after (key_of more) number gives)
    ]

-- the same of transitions as the code has them
pub keyed-pushed : (transitions : List (Bor Transition)) (transition : Bor Transition) (before after : NameMap) (number : ℕ) → AreKeyed (seen_transitions transitions) before
    → GivesNumber before (key_of transition.now) number after → AreKeyed (seen_transitions (transitions ++ transition ∷ [])) after
keyed-pushed transitions transition before after number keyed gives =
    subst (λ (ts : List Transition). AreKeyed ts after) (sym (map-append (λ (t : Bor Transition). t.now) transitions (transition ∷ [])))
    (keyed-more (seen_transitions transitions) transition.now before after number keyed gives)
