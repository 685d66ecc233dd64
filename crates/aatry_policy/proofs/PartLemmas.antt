-- The parts of a policy set have those of all its profiles, and no others.
use Rattle.std.proofs.Common.{◌≡◌, ℕ, zero, suc, ◌+◌, Bool, true, false, cond, List, [], ◌∷◌, ◌++◌, Option, None, Some, slice_get, refl, sym, ap, subst, ◌∙◌, arith}
use Rattle.std.proofs.Math.Nat.{add-zero, zero-add}
use Rattle.std.proofs.lemmas.List.Elements.{All-append, All-cons, All-contains, All-head, All-nil, All-tail, All-weaker}
use Rattle.std.proofs.lemmas.List.Elements.{Contains-append_right}
use Rattle.std.proofs.lemmas.Slice.Eq.{bytes_eq-Decides}
use Rattle.std.specs.List.{All, Contains}
use Rattle.std.specs.Str.{bytes_eq}
use Rattle.aa_decide.specs.Exec.{Asker}
use Rattle.aa_decide_ready.specs.Entries.{Loaded}
use Rattle.aa_decide_ready.specs.Ready.{audits, child_audits, child_rules, rules_at}
use Rattle.aa_decide_ready.specs.Visits.{child_attachments}
use Rattle.aa_profile_data.specs.declared.profile.Child.{Child}
use Rattle.aa_profile_data.specs.declared.profile.Profile.{Profile}
use Rattle.aa_set_answers.specs.Laws.{IsListed, StandsAt}
use Rattle.aa_set_answers.specs.ProfileNames.{full_name_at}
use Rattle.aatry_policy.specs.Laws.{HasOwnRules, IsPartIn}
use Rattle.aatry_policy.specs.Parts.{Part, behind_first, child_part, child_parts, first_of, part_of, profile_part, profile_parts, set_parts}
use Rattle.aatry_policy.specs.declared.origins.Origin.{Origin}

-- some parts have one of a full name
abbrev pub Has : List Part → List ℕ → Type 0
Has parts name = (part : Part) × (part_of parts name ≡ Some part)

has-first : (part : Part) (parts : List Part) (name : List ℕ) → part.name ≡ name → Has (part ∷ parts) name
has-first part parts name same = (part, ap (λ b. cond b (Some part) (part_of parts name)) ((bytes_eq-Decides part.name name).1 same))

has-next : (part : Part) (parts : List Part) (name : List ℕ) → Has parts name → Has (part ∷ parts) name
has-next part parts name (found, is) = by (bytes_eq part.name name)
  where
    by : (same : Bool) → (one : Part) × (cond same (Some part) (part_of parts name) ≡ Some one)
    by true = (part, refl)
    by false = (found, is)

has-left : (front behind : List Part) (name : List ℕ) → Has front name → Has (front ++ behind) name
has-left [] behind name (found, is) = absurd (cc)
has-left (part ∷ front) behind name (found, is) = by (bytes_eq part.name name) (λ e. has-left front behind name (found, e)) is
  where
    by : (same : Bool) → (part_of front name ≡ Some found → Has (front ++ behind) name)
        → cond same (Some part) (part_of front name) ≡ Some found
        → (one : Part) × (cond same (Some part) (part_of (front ++ behind) name) ≡ Some one)
    by true rest e = (part, refl)
    by false rest e = rest e

has-right : (front behind : List Part) (name : List ℕ) → Has behind name → Has (front ++ behind) name
has-right [] behind name has = has
has-right (part ∷ front) behind name has = has-next part (front ++ behind) name (has-right front behind name has)

-- some parts have those of a profile, and of its children and hats
abbrev pub HasAll : List Part → Profile → Type 0
HasAll parts profile =
    Has parts (full_name_at profile None)
    × ((place : ℕ) (child : Child) → slice_get profile.children place ≡ Some child → Has parts (full_name_at profile (Some place)))

all-left : (front behind : List Part) (profile : Profile) → HasAll front profile → HasAll (front ++ behind) profile
all-left front behind profile has = (
  has-left front behind (full_name_at profile None) has.0,
  λ place child is. has-left front behind (full_name_at profile (Some place)) (has.1 place child is),
)

all-right : (front behind : List Part) (profile : Profile) → HasAll behind profile → HasAll (front ++ behind) profile
all-right front behind profile has = (
  has-right front behind (full_name_at profile None) has.0,
  λ place child is. has-right front behind (full_name_at profile (Some place)) (has.1 place child is),
)

-- the parts of a profile
module _ (origin : Option Origin) (entry : Loaded) where
  abbrev profile : Profile
  profile = entry.profile

  has-children : (at place : ℕ) (children : List Child) (child : Child) → slice_get children place ≡ Some child
      → Has (child_parts origin entry at children) (full_name_at profile (Some (at + place)))
  has-children at place [] child is = absurd (cc)
  has-children at zero (first ∷ children) child is =
      has-first (child_part origin entry at first) (child_parts origin entry (at + 1) children) (full_name_at profile (Some (at + 0)))
      (ap (λ n. full_name_at profile (Some n)) (sym (add-zero at)))
  has-children at (suc place) (first ∷ children) child is =
      let next : at + 1 + place ≡ at + suc place = omega arith in
      has-next (child_part origin entry at first) (child_parts origin entry (at + 1) children) (full_name_at profile (Some (at + suc place)))
      (subst (λ n. Has (child_parts origin entry (at + 1) children) (full_name_at profile (Some n))) next (has-children (at + 1) place children child is))

  has-own : HasAll (profile_parts origin entry) profile
  has-own = (
    has-first (profile_part origin entry) (child_parts origin entry 0 profile.children) profile.name refl,
    λ place child is.
        has-next (profile_part origin entry) (child_parts origin entry 0 profile.children) (full_name_at profile (Some place))
        (subst (λ n. Has (child_parts origin entry 0 profile.children) (full_name_at profile (Some n))) (zero-add place)
        (has-children 0 place profile.children child is)),
  )

-- the parts of a policy set have those of all its profiles
pub has-set : (entries : List Loaded) (origins : List Origin) → All (λ entry. HasAll (set_parts entries origins) entry.profile) entries
has-set [] origins = All-nil (λ entry. HasAll (set_parts [] origins) entry.profile)
has-set (entry ∷ entries) origins =
    let front = profile_parts (first_of origins) entry in
    let behind = set_parts entries (behind_first origins) in
    All-cons (λ entry. HasAll (front ++ behind) entry.profile) entry entries (all-left front behind entry.profile (has-own (first_of origins) entry))
    (All-weaker (λ entry. HasAll behind entry.profile) (λ entry. HasAll (front ++ behind) entry.profile) (λ other. all-right front behind other.profile)
    entries (has-set entries (behind_first origins)))

are-children : (entries : List Loaded) (origin : Option Origin) (entry : Loaded) (at : ℕ) (children : List Child)
    → Contains entries entry → ((k : ℕ) → slice_get children k ≡ slice_get entry.profile.children (at + k))
    → All (IsPartIn entries) (child_parts origin entry at children)
are-children entries origin entry at [] there same = All-nil (IsPartIn entries)
are-children entries origin entry at (child ∷ children) there same =
    let is : slice_get entry.profile.children at ≡ Some child = ap (slice_get entry.profile.children) (sym (add-zero at)) ∙ sym (same 0) in
    let who : Asker = record { entry = entry; child = Some at } in
    All-cons (IsPartIn entries) (child_part origin entry at child) (child_parts origin entry (at + 1) children) (
      who,
      (there, (child, is)),
      record {
        name = refl;
        mode = refl;
        audit = ap child_audits (sym is);
        attachments = ap child_attachments (sym is);
        rules = ap child_rules (sym is);
      },
    )
    (are-children entries origin entry (at + 1) children there
    (λ k. same (suc k) ∙ ap (slice_get entry.profile.children) (more k)))
  where
    more : (k : ℕ) → at + suc k ≡ at + 1 + k
    more k = omega arith

are-own : (entries : List Loaded) (origin : Option Origin) (entry : Loaded) → Contains entries entry
    → All (IsPartIn entries) (profile_parts origin entry)
are-own entries origin entry there =
    let who : Asker = record { entry = entry; child = None } in
    All-cons (IsPartIn entries) (profile_part origin entry) (child_parts origin entry 0 entry.profile.children)
    (who, (there, tt), record { name = refl; mode = refl; audit = refl; attachments = refl; rules = refl })
    (are-children entries origin entry 0 entry.profile.children there (λ k. ap (slice_get entry.profile.children) (sym (zero-add k))))

-- and each is one of them
pub are-set : (all entries : List Loaded) (origins : List Origin) → ((entry : Loaded) → Contains entries entry → Contains all entry)
    → All (IsPartIn all) (set_parts entries origins)
are-set all [] origins there = All-nil (IsPartIn all)
are-set all (entry ∷ entries) origins there =
    All-append (IsPartIn all) (profile_parts (first_of origins) entry) (set_parts entries (behind_first origins))
    (are-own all (first_of origins) entry (there entry (0, omega arith, refl)))
    (are-set all entries (behind_first origins) (λ other is. there other (Contains-append_right (entry ∷ []) entries other is)))

-- the part of a name is one of the parts, and has that name
pub part-is : (P : Part → Type 0) (parts : List Part) (name : List ℕ) (found : Part) → All P parts → part_of parts name ≡ Some found
    → P found × (found.name ≡ name)
part-is P [] name found all is = absurd (cc)
part-is P (part ∷ parts) name found all is =
    by (bytes_eq part.name name) refl (part-is P parts name found (All-tail P part parts all)) is
  where
    by : (same : Bool) → bytes_eq part.name name ≡ same → (part_of parts name ≡ Some found → P found × (found.name ≡ name))
        → cond same (Some part) (part_of parts name) ≡ Some found → P found × (found.name ≡ name)
    by true e rest one =
        let own : part ≡ found = ap (λ (o : Option Part). elim o [ None ↦ part | Some p ↦ p ]) one in
        (subst P own (All-head P part parts all), ap (λ (p : Part). p.name) (sym own) ∙ (bytes_eq-Decides part.name name).0 e)
    by false e rest one = rest one

-- Where a full name leads back to the one that has it, the part of that name has its rules.
module _ (asker : List ℕ → Option (Option Asker)) (entries : List Loaded) (parts : List Part)
    (leads : (who : Asker) → IsListed entries who → asker (full_name_at who.entry.profile who.child) ≡ Some (Some who)) where
  abbrev name_of : Asker → List ℕ
  name_of who = full_name_at who.entry.profile who.child

  same-asker : (one other : Asker) → IsListed entries one → IsListed entries other → name_of one ≡ name_of other → one ≡ other
  same-asker one other first second same =
      let both : Some (Some one) ≡ Some (Some other) = sym (leads one first) ∙ ap asker same ∙ leads other second in
      ap (λ (found : Option (Option Asker)). elim found [ None ↦ one | Some o ↦ elim o [ None ↦ one | Some who ↦ who ] ]) both

  has-listed : All (λ entry. HasAll parts entry.profile) entries → (who : Asker) → IsListed entries who → Has parts (name_of who)
  has-listed all who listed = by who.child listed.1 (All-contains (λ entry. HasAll parts entry.profile) entries who.entry all listed.0)
    where
      by : (child : Option ℕ) → StandsAt who.entry.profile child → HasAll parts who.entry.profile → Has parts (full_name_at who.entry.profile child)
      by None stands has = has.0
      by (Some place) stands has = has.1 place stands.0 stands.1

  pub rules-of : All (λ entry. HasAll parts entry.profile) entries → All (IsPartIn entries) parts
      → (who : Asker) → IsListed entries who → HasOwnRules parts who
  rules-of has are who listed =
      let (part, found) = has-listed has who listed in
      let (is, named) = part-is (IsPartIn entries) parts (name_of who) part are found in
      let (other, there, own) = is in
      let same : other ≡ who = same-asker other who there listed (sym own.name ∙ named) in (
        part,
        found,
        own.rules ∙ ap (λ (one : Asker). rules_at one.entry.profile one.child) same,
        own.audit ∙ ap (λ (one : Asker). audits one.entry.profile one.child) same,
      )
