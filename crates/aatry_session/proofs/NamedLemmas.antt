-- Which profile has a name in a policy set that was changed, and which origin a change has for it.
use Rattle.std.proofs.Common.{◌≡◌, ℕ, Bool, true, false, not, cond, ◌||◌, List, [], ◌∷◌, map, Option, None, Some, refl, sym, ap, subst, ◌∙◌}
use Rattle.std.proofs.lemmas.Bool.{and_parts, true≢false}
use Rattle.std.proofs.lemmas.Slice.Eq.{bytes_eq-Decides}
use Rattle.std.specs.List.{filter, list_any}
use Rattle.std.specs.Str.{bytes_eq}
use Rattle.aa_decide_ready.specs.Entries.{Loaded}
use Rattle.aa_decide_ready.specs.Named.{entry_named, has_name}
use Rattle.aa_profile_data.specs.Profile.{are_distinct, is_named as is_profile_named}
use Rattle.aa_profile_data.specs.declared.profile.Mode.{Mode}
use Rattle.aa_profile_data.specs.declared.profile.Profile.{Profile}
use Rattle.aa_profile_parsing.specs.declared.language.Language.{Language}
use Rattle.aa_set_manager.specs.Changes.{are_there, in_force, loaded, put, put_all}
use Rattle.aa_text_files.specs.Files.{File}
use Rattle.aatry_policy.specs.Origins.{origin_in}
use Rattle.aatry_policy.specs.PlaceLaws.{AreReadAt, IsReadAt}
use Rattle.aatry_policy.specs.declared.origins.Origin.{Origin}

-- an entry of a name has that name, and is the first that has it
pub named-is : (name : List ℕ) (entries : List Loaded) (entry : Loaded) → entry_named name entries ≡ Some entry → entry.profile.name ≡ name
named-is name [] entry is = absurd (cc)
named-is name (other ∷ entries) entry is = by (bytes_eq other.profile.name name) refl (named-is name entries entry) is
  where
    by : (same : Bool) → bytes_eq other.profile.name name ≡ same → (entry_named name entries ≡ Some entry → entry.profile.name ≡ name)
        → cond same (Some other) (entry_named name entries) ≡ Some entry → entry.profile.name ≡ name
    by true e rest one =
        let own : other ≡ entry = cc in
        subst (λ (o : Loaded). o.profile.name ≡ name) own ((bytes_eq-Decides other.profile.name name).0 e)
    by false e rest one = rest one

pub has-named : (name : List ℕ) (entries : List Loaded) (entry : Loaded) → entry_named name entries ≡ Some entry → has_name name entries ≡ true
has-named name [] entry is = absurd (cc)
has-named name (other ∷ entries) entry is = by (bytes_eq other.profile.name name) (has-named name entries entry) is
  where
    by : (same : Bool) → (entry_named name entries ≡ Some entry → has_name name entries ≡ true)
        → cond same (Some other) (entry_named name entries) ≡ Some entry → (same || has_name name entries) ≡ true
    by true rest one = refl
    by false rest one = rest one

-- one of two names that aren't the same is neither
apart : (one other name : List ℕ) → bytes_eq one other ≡ false → bytes_eq one name ≡ true → bytes_eq other name ≡ false
apart one other name differ is = by (bytes_eq other name) refl
  where
    by : (same : Bool) → bytes_eq other name ≡ same → bytes_eq other name ≡ false
    by false e = e
    by true e =
        let both : one ≡ other = (bytes_eq-Decides one name).0 is ∙ sym ((bytes_eq-Decides other name).0 e) in
        absurd (true≢false (sym ((bytes_eq-Decides one other).1 both) ∙ differ))

alike : (one other name : List ℕ) → bytes_eq one other ≡ true → bytes_eq one name ≡ bytes_eq other name
alike one other name same = ap (λ n. bytes_eq n name) ((bytes_eq-Decides one other).0 same)

-- an entry in the place of the one of its name has that name, and each other name is whose it was
pub named-put : (entry : Loaded) (entries : List Loaded) (name : List ℕ)
    → entry_named name (put entry entries) ≡ cond (bytes_eq entry.profile.name name) (Some entry) (entry_named name entries)
named-put entry [] name = refl
named-put entry (other ∷ entries) name = by (bytes_eq other.profile.name entry.profile.name) refl (named-put entry entries name)
  where
    rest : Option Loaded
    rest = entry_named name entries

    within : (own first : Bool) → bytes_eq entry.profile.name name ≡ own → bytes_eq other.profile.name name ≡ first
        → bytes_eq other.profile.name entry.profile.name ≡ false
        → cond first (Some other) (cond own (Some entry) rest) ≡ cond own (Some entry) (cond first (Some other) rest)
    within false false e f differ = refl
    within false true e f differ = refl
    within true false e f differ = refl
    within true true e f differ = absurd (true≢false (sym e ∙ apart other.profile.name entry.profile.name name differ f))

    same : (own first : Bool) → own ≡ first → cond own (Some entry) rest ≡ cond own (Some entry) (cond first (Some other) rest)
    same true first e = refl
    same false false e = refl
    same false true e = absurd (true≢false (sym e))

    by : (there : Bool) → bytes_eq other.profile.name entry.profile.name ≡ there
        → entry_named name (put entry entries) ≡ cond (bytes_eq entry.profile.name name) (Some entry) rest
        → entry_named name (cond there (entry ∷ entries) (other ∷ put entry entries))
        ≡ cond (bytes_eq entry.profile.name name) (Some entry) (cond (bytes_eq other.profile.name name) (Some other) rest)
    by true e behind =
        same (bytes_eq entry.profile.name name) (bytes_eq other.profile.name name) (sym (alike other.profile.name entry.profile.name name e))
    by false e behind =
        ap (λ (o : Option Loaded). cond (bytes_eq other.profile.name name) (Some other) o) behind
        ∙ within (bytes_eq entry.profile.name name) (bytes_eq other.profile.name name) refl refl e

-- an entry of a name that is kept, where that goes by names, was the one of the name before
pub named-kept : (keeps : List ℕ → Bool) (name : List ℕ) (entries : List Loaded) (entry : Loaded)
    → entry_named name (filter (λ (e : Loaded). keeps e.profile.name) entries) ≡ Some entry
    → (entry_named name entries ≡ Some entry) × (keeps name ≡ true)
named-kept keeps name [] entry is = absurd (cc)
named-kept keeps name (other ∷ entries) entry is = by (keeps other.profile.name) refl is (named-kept keeps name entries entry)
  where
    kept : List Loaded
    kept = filter (λ (e : Loaded). keeps e.profile.name) entries

    first : (same : Bool) → bytes_eq other.profile.name name ≡ same → keeps other.profile.name ≡ true
        → (entry_named name kept ≡ Some entry → (entry_named name entries ≡ Some entry) × (keeps name ≡ true))
        → cond same (Some other) (entry_named name kept) ≡ Some entry
        → (cond same (Some other) (entry_named name entries) ≡ Some entry) × (keeps name ≡ true)
    first true e stays rest one = (one, subst (λ n. keeps n ≡ true) ((bytes_eq-Decides other.profile.name name).0 e) stays)
    first false e stays rest one = rest one

    dropped : (same : Bool) → bytes_eq other.profile.name name ≡ same → keeps other.profile.name ≡ false
        → (entry_named name entries ≡ Some entry) × (keeps name ≡ true)
        → (cond same (Some other) (entry_named name entries) ≡ Some entry) × (keeps name ≡ true)
    dropped true e goes found =
        absurd (true≢false (sym found.1 ∙ subst (λ n. keeps n ≡ false) ((bytes_eq-Decides other.profile.name name).0 e) goes))
    dropped false e goes found = found

    by : (stays : Bool) → keeps other.profile.name ≡ stays → entry_named name (cond stays (other ∷ kept) kept) ≡ Some entry
        → (entry_named name kept ≡ Some entry → (entry_named name entries ≡ Some entry) × (keeps name ≡ true))
        → (entry_named name (other ∷ entries) ≡ Some entry) × (keeps name ≡ true)
    by true e one rest = first (bytes_eq other.profile.name name) refl e rest one
    by false e one rest = dropped (bytes_eq other.profile.name name) refl e (rest one)

-- a name has no origin among those of profiles of which none has it
pub none-named : (language : Language) (files : List File) (force_complain : Bool) (profiles : List Profile) (origins : List Origin) (name : List ℕ)
    → AreReadAt language files (map (loaded force_complain) profiles) origins → list_any (is_profile_named name) profiles ≡ false → origin_in name origins ≡ None
none-named language files force_complain [] [] name all none = refl
none-named language files force_complain [] (origin ∷ origins) name all none = absurd all
none-named language files force_complain (profile ∷ profiles) [] name all none = absurd all
none-named language files force_complain (profile ∷ profiles) (origin ∷ origins) name all none =
    by (bytes_eq profile.name name) (ap (λ n. bytes_eq n name) all.0.named) (none-named language files force_complain profiles origins name all.1) none
  where
    by : (same : Bool) → bytes_eq origin.profile name ≡ same → (list_any (is_profile_named name) profiles ≡ false → origin_in name origins ≡ None)
        → (same || list_any (is_profile_named name) profiles) ≡ false → origin_in name (origin ∷ origins) ≡ None
    by true e rest missing = absurd (true≢false missing)
    by false e rest missing = ap (λ b. cond b (Some origin) (origin_in name origins)) e ∙ rest missing

-- a name that is there is none of profiles of which no name is there
pub none-there : (profiles : List Profile) (entries : List Loaded) (name : List ℕ) → are_there profiles entries ≡ false → has_name name entries ≡ true
    → list_any (is_profile_named name) profiles ≡ false
none-there [] entries name none there = refl
none-there (profile ∷ profiles) entries name none there =
    by (bytes_eq profile.name name) refl (has_name profile.name entries) refl (λ others. none-there profiles entries name others there) none
  where
    by : (same : Bool) → bytes_eq profile.name name ≡ same → (own : Bool) → has_name profile.name entries ≡ own
        → (are_there profiles entries ≡ false → list_any (is_profile_named name) profiles ≡ false)
        → (own || are_there profiles entries) ≡ false → (same || list_any (is_profile_named name) profiles) ≡ false
    by same e true f rest missing = absurd (true≢false missing)
    by true e false f rest missing =
        absurd (true≢false (sym there ∙ subst (λ n. has_name n entries ≡ false) ((bytes_eq-Decides profile.name name).0 e) f))
    by false e false f rest missing = rest missing

-- what a change has for a profile: an origin of its own, or none, and the profile was there before
pub data Came (language : Language) (files : List File) (entries : List Loaded) (own : List Origin) (name : List ℕ) (profile : Profile) : Type 0 where
  Own : (origin : Origin) → origin_in name own ≡ Some origin → IsReadAt language files profile origin → Came language files entries own name profile
  Before : (old : Loaded) → origin_in name own ≡ None → entry_named name entries ≡ Some old → old.profile ≡ profile → Came language files entries own name profile

-- each profile in the place of the one of its name
pub came-put : (language : Language) (files : List File) (force_complain : Bool) (set : Option Mode) (profiles : List Profile) (origins : List Origin) (entries : List Loaded)
    (name : List ℕ) (entry : Loaded) → AreReadAt language files (map (loaded force_complain) profiles) origins → are_distinct profiles ≡ true
    → entry_named name (put_all set entries profiles) ≡ Some entry → Came language files entries origins name entry.profile
came-put language files force_complain set [] [] entries name entry all distinct is = Before entry refl is refl
came-put language files force_complain set [] (origin ∷ origins) entries name entry all distinct is = absurd all
came-put language files force_complain set (profile ∷ profiles) [] entries name entry all distinct is = absurd all
came-put language files force_complain set (profile ∷ profiles) (origin ∷ origins) entries name entry all distinct is =
    let (single, others) = and_parts (not (list_any (is_profile_named profile.name) profiles)) (are_distinct profiles) distinct in
    by (bytes_eq profile.name name) refl (came-put language files force_complain set profiles origins (put (in_force set profile) entries) name entry all.1 others is) single
  where
    tested : (same : Bool) → bytes_eq profile.name name ≡ same → origin_in name (origin ∷ origins) ≡ cond same (Some origin) (origin_in name origins)
    tested same e = ap (λ b. cond b (Some origin) (origin_in name origins)) (ap (λ n. bytes_eq n name) all.0.named ∙ e)

    not-later : (any : Bool) → not any ≡ true → any ≡ false
    not-later false h = refl
    not-later true h = absurd (true≢false (sym h))

    placed : (same : Bool) → bytes_eq profile.name name ≡ same
        → entry_named name (put (in_force set profile) entries) ≡ cond same (Some (in_force set profile)) (entry_named name entries)
    placed same e =
        named-put (in_force set profile) entries name ∙ ap (λ b. cond b (Some (in_force set profile)) (entry_named name entries)) e

    by : (same : Bool) → bytes_eq profile.name name ≡ same → Came language files (put (in_force set profile) entries) origins name entry.profile
        → not (list_any (is_profile_named profile.name) profiles) ≡ true → Came language files entries (origin ∷ origins) name entry.profile
    by true e (Own other found read) single =
        let none : origin_in name origins ≡ None =
        none-named language files force_complain profiles origins name all.1
        (subst (λ n. list_any (is_profile_named n) profiles ≡ false) ((bytes_eq-Decides profile.name name).0 e)
        (not-later (list_any (is_profile_named profile.name) profiles) single)) in
        absurd (cc)
    by true e (Before old none found same) single =
        let first : in_force set profile ≡ old = ap (λ (o : Option Loaded). elim o [ None ↦ old | Some one ↦ one ]) (sym (placed true e) ∙ found) in
        Own origin (tested true e) (subst (λ p. IsReadAt language files p origin) (ap (λ (o : Loaded). o.profile) first ∙ same) all.0)
    by false e (Own other found read) single = Own other (tested false e ∙ found) read
    by false e (Before old none found same) single = Before old (tested false e ∙ none) (sym (placed false e) ∙ found) same
