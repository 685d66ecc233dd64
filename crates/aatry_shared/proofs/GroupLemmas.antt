-- Changes that are gathered: each stands there once, with those that have it, and with no others.
use Rattle.std.proofs.Common.{◌≡◌, ℕ, zero, suc, ◌≤◌, Bool, true, false, cond, List, [], ◌∷◌, filter, length, arith, inl, inr, refl, sym, ap, subst, ◌∙◌}
use Rattle.std.specs.List.{Contains}
use Rattle.aatry_shared.proofs.NameLemmas.{behind-first, name-kept, name-origin, name-there}
use Rattle.aatry_shared.specs.Sharing.{Change, Group, Having, are_several, gathered, gathered_behind, is_shared_group, names_of, same_change, shared, with_having}
use Rattle.aatry_shared.specs.Sharing.{with_name}
use Rattle.aatry_shared.specs.SharingLaws.{IsNamedOnce}
use Rattle.aatry_shared.specs.code.SameKeys.{change-equal, change-self}

-- one more that has a change is named with those that have it
names-added : (having : Having) (groups : List Group)
    → names_of having.change (with_having having groups) ≡ with_name (names_of having.change groups) having.name
names-added having [] = rw (change-self having.change) refl
names-added having (group ∷ groups) = by (same_change having.change group.change) refl (names-added having groups)
  where
    by : (same : Bool) → same_change having.change group.change ≡ same
        → names_of having.change (with_having having groups) ≡ with_name (names_of having.change groups) having.name
        → names_of having.change (with_having having (group ∷ groups)) ≡ with_name (names_of having.change (group ∷ groups)) having.name
    by true h rest = rw (h, h) refl
    by false h rest = rw (h, h) rest

-- a change that isn't the same stands apart from what one has that has another
apart : (change : Change) (having : Having) (group : Group) → same_change change having.change ≡ false → same_change having.change group.change ≡ true
    → same_change change group.change ≡ false
apart change having group other same = ap (same_change change) (sym (change-equal having.change group.change same)) ∙ other

names-others : (change : Change) (having : Having) (groups : List Group) → same_change change having.change ≡ false
    → names_of change (with_having having groups) ≡ names_of change groups
names-others change having [] other = rw other refl
names-others change having (group ∷ groups) other = by (same_change having.change group.change) refl (names-others change having groups other)
  where
    by : (same : Bool) → same_change having.change group.change ≡ same → names_of change (with_having having groups) ≡ names_of change groups
        → names_of change (with_having having (group ∷ groups)) ≡ names_of change (group ∷ groups)
    by true h rest = let no = apart change having group other h in rw (h, no) refl
    by false h rest = rw h (ap (λ names. cond (same_change change group.change) group.names names) rest)

-- who has a change stays named
kept-with : (change : Change) (name : List ℕ) (having : Having) (groups : List Group) → Contains (names_of change groups) name
    → Contains (names_of change (with_having having groups)) name
kept-with change name having groups there = by (same_change change having.change) refl
  where
    by : (same : Bool) → same_change change having.change ≡ same → Contains (names_of change (with_having having groups)) name
    by true h =
        let equal = change-equal change having.change h in
        subst (λ (one : Change). Contains (names_of one (with_having having groups)) name) (sym equal)
        (subst (λ (names : List (List ℕ)). Contains names name) (sym (names-added having groups))
        (name-kept (names_of having.change groups) having.name name
        (subst (λ (one : Change). Contains (names_of one groups) name) equal there)))
    by false h = subst (λ (names : List (List ℕ)). Contains names name) (sym (names-others change having groups h)) there

kept-behind : (havings : List Having) (groups : List Group) (change : Change) (name : List ℕ) → Contains (names_of change groups) name
    → Contains (names_of change (gathered_behind groups havings)) name
kept-behind [] groups change name there = there
kept-behind (having ∷ havings) groups change name there =
    kept-behind havings (with_having having groups) change name (kept-with change name having groups there)

-- each that has a change is named with it
named-behind : (havings : List Having) (groups : List Group) (having : Having) → Contains havings having
    → Contains (names_of having.change (gathered_behind groups havings)) having.name
named-behind [] groups having there = absurd (omega (arith, there.1))
named-behind (first ∷ havings) groups having (zero, within, is) =
    subst (λ (one : Having). Contains (names_of one.change (gathered_behind (with_having first groups) havings)) one.name) is
    (kept-behind havings (with_having first groups) first.change first.name
    (subst (λ (names : List (List ℕ)). Contains names first.name) (sym (names-added first groups))
    (name-there (names_of first.change groups) first.name)))
named-behind (first ∷ havings) groups having (suc k, within, is) =
    named-behind havings (with_having first groups) having (k, omega (arith, within), is)

-- how often a change stands among some
abbrev pub times : Change → List Group → ℕ
times change groups = length (filter (λ (group : Group). same_change change group.change) groups)

abbrev pub once-at-least : ℕ → ℕ
once-at-least zero = 1
once-at-least (suc n) = suc n

times-added : (having : Having) (groups : List Group)
    → times having.change (with_having having groups) ≡ once-at-least (times having.change groups)
times-added having [] = rw (change-self having.change) refl
times-added having (group ∷ groups) = by (same_change having.change group.change) refl (times-added having groups)
  where
    by : (same : Bool) → same_change having.change group.change ≡ same
        → times having.change (with_having having groups) ≡ once-at-least (times having.change groups)
        → times having.change (with_having having (group ∷ groups)) ≡ once-at-least (times having.change (group ∷ groups))
    by true h rest = rw (h, h) refl
    by false h rest = rw (h, h) rest

times-others : (change : Change) (having : Having) (groups : List Group) → same_change change having.change ≡ false
    → times change (with_having having groups) ≡ times change groups
times-others change having [] other = rw other refl
times-others change having (group ∷ groups) other = by (same_change having.change group.change) refl (times-others change having groups other)
  where
    more : (b : Bool) (one other : List Group) → length one ≡ length other
        → length (cond b (group ∷ one) one) ≡ length (cond b (group ∷ other) other)
    more true one other same = ap suc same
    more false one other same = same

    by : (same : Bool) → same_change having.change group.change ≡ same → times change (with_having having groups) ≡ times change groups
        → times change (with_having having (group ∷ groups)) ≡ times change (group ∷ groups)
    by true h rest = let no = apart change having group other h in rw (h, no) refl
    by false h rest =
        rw h (more (same_change change group.change) (filter (λ (one : Group). same_change change one.change) (with_having having groups))
        (filter (λ (one : Group). same_change change one.change) groups) rest)

few : (n : ℕ) → n ≤ 1 → once-at-least n ≤ 1
few zero h = omega arith
few (suc n) h = h

-- it stands there once at most
few-with : (change : Change) (having : Having) (groups : List Group) → times change groups ≤ 1 → times change (with_having having groups) ≤ 1
few-with change having groups h = by (same_change change having.change) refl
  where
    by : (same : Bool) → same_change change having.change ≡ same → times change (with_having having groups) ≤ 1
    by true e =
        let equal = change-equal change having.change e in
        subst (λ (one : Change). times one (with_having having groups) ≤ 1) (sym equal)
        (subst (λ (n : ℕ). n ≤ 1) (sym (times-added having groups))
        (few (times having.change groups) (subst (λ (one : Change). times one groups ≤ 1) equal h)))
    by false e = subst (λ (n : ℕ). n ≤ 1) (sym (times-others change having groups e)) h

few-behind : (havings : List Having) (groups : List Group) (change : Change) → times change groups ≤ 1
    → times change (gathered_behind groups havings) ≤ 1
few-behind [] groups change h = h
few-behind (having ∷ havings) groups change h = few-behind havings (with_having having groups) change (few-with change having groups h)

-- among the shared ones a change that is shared names the same
names-shared : (change : Change) (groups : List Group) → are_several (names_of change groups) ≡ true
    → names_of change (shared groups) ≡ names_of change groups
names-shared change [] several = refl
names-shared change (group ∷ groups) several =
    by (same_change change group.change) refl (are_several group.names) refl several (names-shared change groups)
  where
    by : (same : Bool) → same_change change group.change ≡ same → (kept : Bool) → are_several group.names ≡ kept
        → are_several (cond same group.names (names_of change groups)) ≡ true
        → (are_several (names_of change groups) ≡ true → names_of change (shared groups) ≡ names_of change groups)
        → names_of change (shared (group ∷ groups)) ≡ names_of change (group ∷ groups)
    by true e true f several rest = rw (f, e) refl
    by true e false f several rest = let no : false ≡ true = sym f ∙ several in absurd (cc)
    by false e true f several rest = rw (f, e) (rest several)
    by false e false f several rest = rw (f, e) (rest several)

fewer-shared : (change : Change) (groups : List Group) → times change (shared groups) ≤ times change groups
fewer-shared change [] = omega arith
fewer-shared change (group ∷ groups) = by (same_change change group.change) refl (are_several group.names) refl (fewer-shared change groups)
  where
    by : (same : Bool) → same_change change group.change ≡ same → (kept : Bool) → are_several group.names ≡ kept
        → times change (shared groups) ≤ times change groups
        → times change (shared (group ∷ groups)) ≤ times change (group ∷ groups)
    by true e true f rest = rw (f, e) (omega (arith, rest))
    by true e false f rest = rw (f, e) (omega (arith, rest))
    by false e true f rest = rw (f, e) rest
    by false e false f rest = rw (f, e) rest

-- where somebody has a change it stands there
some-times : (change : Change) (groups : List Group) (name : List ℕ) → Contains (names_of change groups) name → 1 ≤ times change groups
some-times change [] name there = absurd (omega (arith, there.1))
some-times change (group ∷ groups) name there = by (same_change change group.change) refl there (some-times change groups name)
  where
    by : (same : Bool) → same_change change group.change ≡ same → Contains (cond same group.names (names_of change groups)) name
        → (Contains (names_of change groups) name → 1 ≤ times change groups)
        → 1 ≤ times change (group ∷ groups)
    by true e there rest = rw e (omega arith)
    by false e there rest = rw e (rest there)

-- so a change that is shared stands once among the shared ones, and names who has it
pub named-once : (havings : List Having) (having : Having) → Contains havings having
    → are_several (names_of having.change (gathered havings)) ≡ true → IsNamedOnce (shared (gathered havings)) having
named-once havings having there several =
    let groups = gathered havings in
    let named : Contains (names_of having.change (shared groups)) having.name =
    subst (λ (names : List (List ℕ)). Contains names having.name) (sym (names-shared having.change groups several)) (named-behind havings [] having there) in
    let most = few-behind havings [] having.change (omega arith) in
    let fewer = fewer-shared having.change groups in
    let some = some-times having.change (shared groups) having.name named in
    record { once = omega (arith, most, fewer, some); named = named }

-- each that is named has the change
abbrev pub IsBacked : List Having → Group → Type 0
IsBacked havings group = (name : List ℕ) → Contains group.names name → Contains havings (record { name = name; change = group.change })

abbrev pub AreBacked : List Having → List Group → Type 0
AreBacked havings [] = Unit
AreBacked havings (group ∷ groups) = IsBacked havings group × AreBacked havings groups

backed-by : (all : List Having) (having : Having) (change : Change) (name : List ℕ) → Contains all having → having.change ≡ change → name ≡ having.name
    → Contains all (record { name = name; change = change })
backed-by all having change name there same named =
    let own : having ≡ record { name = name; change = change } = λ i. record { name = sym named i; change = same i } in
    subst (λ (one : Having). Contains all one) own there

backed-with : (all : List Having) (having : Having) → Contains all having → (groups : List Group) → AreBacked all groups
    → AreBacked all (with_having having groups)
backed-with all having there [] backed = (
  (λ name own. backed-by all having having.change name there refl (elim (name-origin [] having.name name own) [
    | inl none ↦ absurd (omega (arith, none.1))
    | inr named ↦ named
  ])),
  tt,
)
backed-with all having there (group ∷ groups) backed =
    by (same_change having.change group.change) refl (backed-with all having there groups backed.1)
  where
    by : (same : Bool) → same_change having.change group.change ≡ same → AreBacked all (with_having having groups)
        → AreBacked all (cond same (record { change = group.change; names = with_name group.names having.name } ∷ groups) (group ∷ with_having having groups))
    by true e rest = (
      (λ name own. elim (name-origin group.names having.name name own) [
        | inl old ↦ backed.0 name old
        | inr named ↦ backed-by all having group.change name there (change-equal having.change group.change e) named
      ]),
      backed.1,
    )
    by false e rest = (backed.0, rest)

backed-behind : (all havings : List Having) (groups : List Group) → ((having : Having) → Contains havings having → Contains all having)
    → AreBacked all groups → AreBacked all (gathered_behind groups havings)
backed-behind all [] groups among backed = backed
backed-behind all (having ∷ havings) groups among backed =
    backed-behind all havings (with_having having groups) (λ one there. among one (behind-first having havings one there))
    (backed-with all having (among having (0, omega arith, refl)) groups backed)

backed-shared : (all : List Having) (groups : List Group) → AreBacked all groups → AreBacked all (shared groups)
backed-shared all [] backed = backed
backed-shared all (group ∷ groups) backed = by (is_shared_group group) (backed-shared all groups backed.1)
  where
    by : (kept : Bool) → AreBacked all (shared groups) → AreBacked all (cond kept (group ∷ shared groups) (shared groups))
    by true rest = (backed.0, rest)
    by false rest = rest

backed-at : (all : List Having) (groups : List Group) → AreBacked all groups → (group : Group) → Contains groups group → IsBacked all group
backed-at all [] backed group there = absurd (omega (arith, there.1))
backed-at all (first ∷ groups) backed group (zero, within, is) = subst (λ (one : Group). IsBacked all one) is backed.0
backed-at all (first ∷ groups) backed group (suc k, within, is) = backed-at all groups backed.1 group (k, omega (arith, within), is)

-- who is named has the change
pub who-is-named : (havings : List Having) (group : Group) (name : List ℕ) → Contains (shared (gathered havings)) group → Contains group.names name
    → Contains havings (record { name = name; change = group.change })
who-is-named havings group name there named =
    backed-at havings (shared (gathered havings))
    (backed-shared havings (gathered havings) (backed-behind havings havings [] (λ one here. here) tt)) group there name named

-- what is shared two have or more
pub shared-several : (groups : List Group) (group : Group) → Contains (shared groups) group → are_several group.names ≡ true
shared-several [] group there = absurd (omega (arith, there.1))
shared-several (first ∷ groups) group there = by (is_shared_group first) refl there (shared-several groups group)
  where
    by : (kept : Bool) → is_shared_group first ≡ kept → Contains (cond kept (first ∷ shared groups) (shared groups)) group
        → (Contains (shared groups) group → are_several group.names ≡ true)
        → are_several group.names ≡ true
    by true e (zero, within, is) rest = ap is_shared_group (sym is) ∙ e
    by true e (suc k, within, is) rest = rest (k, omega (arith, within), is)
    by false e there rest = rest there
