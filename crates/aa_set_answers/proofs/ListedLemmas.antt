-- Full names that are told lead back to what they were told for.
use Rattle.std.proofs.Common.{◌≡◌, ℕ, zero, suc, ◌+◌, Bool, true, false, cond, not, ◌&&◌, List, [], ◌∷◌, ◌++◌, Option, None, Some, refl, sym, ap, ◌∙◌, subst, arith}
use Rattle.std.specs.Prelude.{◌||◌, ◌==◌, codes, drop, option_and_then, slice_get}
use Rattle.std.specs.Option.{option_map}
use Rattle.std.specs.List.{Contains, list_all, list_any, position_from}
use Rattle.std.specs.Str.{bytes_eq}
use Rattle.std.proofs.lemmas.Bool.{and_parts, not-true}
use Rattle.std.proofs.lemmas.List.{append-nil}
use Rattle.std.proofs.lemmas.Iterator.Adapters.{position_from-zero}
use Rattle.std.proofs.lemmas.Option.{slice_get-get_or}
use Rattle.std.proofs.lemmas.Slice.Eq.{bytes_eq-Decides}
use Rattle.aa_bytes.specs.Bytes.{ampersand, colon, slash}
use Rattle.aa_bytes.specs.Texts.{begins, begins_with}
use Rattle.aa_decide.specs.Exec.{Asker, entry_asker, named_asker}
use Rattle.aa_decide_ready.specs.Named.{entry_named, have_distinct_names, profiles_of}
use Rattle.aa_decide_ready.specs.Entries.{Loaded}
use Rattle.aa_profile_data.specs.Profile.{are_distinct, are_distinct_children, child_place, is_child_named, is_named as is_profile_named}
use Rattle.aa_profile_data.specs.declared.profile.Child.{Child}
use Rattle.aa_profile_data.specs.FullNames.{FullName, full_name}
use Rattle.aa_profile_data.specs.Names.{is_name, is_name_byte, is_top_name, slashes_are_within}
use Rattle.aa_set_answers.specs.ProfileNames.{behind_profile, full_name_at}
use Rattle.aa_set_answers.specs.Askers.{asker}
use Rattle.aa_set_answers.specs.Laws.{HasFileNames, ListedNamesLeadBack, StandsAt}

-- a text that isn't cut at its first byte is cut behind it
behind_first : (b : ℕ) (bs : List ℕ) → begins_with (codes "//") (b ∷ bs) ≡ false → full_name (b ∷ bs) ≡ record { profile = b ∷ (full_name bs).profile; child = (full_name bs).child }
behind_first b bs h = rw h refl

one_slash : (first rest : Bool) → (not first || false) ≡ true → (first && rest) ≡ false
one_slash true rest h = absurd (cc)
one_slash false rest h = refl

two_slashes : (first second rest : Bool) → (not first || not second) ≡ true → (first && (second && rest)) ≡ false
two_slashes true true rest h = absurd (cc)
two_slashes true false rest h = refl
two_slashes false second rest h = refl

-- a text with bytes behind each slash doesn't begin with two of them, whatever stands behind it
no_slashes : (b : ℕ) (bs rest : List ℕ) → slashes_are_within (b ∷ bs) ≡ true → begins_with (codes "//") (b ∷ bs ++ rest) ≡ false
no_slashes b [] rest h = one_slash (b == slash) _ (and_parts (not (b == slash) || false) true h).0
no_slashes b (c ∷ cs) rest h = two_slashes (b == slash) (c == slash) _ (and_parts (not (b == slash) || not (c == slash)) (slashes_are_within (c ∷ cs)) h).0

-- a name is the full name of a profile
cut-name : (name : List ℕ) → slashes_are_within name ≡ true → full_name (name ++ []) ≡ record { profile = name; child = None }
cut-name [] h = refl
cut-name (b ∷ bs) h =
    let rest = cut-name bs (and_parts (not (b == slash) || begins (λ c. not (c == slash)) bs) (slashes_are_within bs) h).1 in
    behind_first b (bs ++ []) (no_slashes b bs [] h) ∙ ap (λ (rest : FullName). record { profile = b ∷ rest.profile; child = rest.child }) rest

-- a name and what stands behind it, which begins with two slashes, are cut there
cut-behind : (name rest : List ℕ) → slashes_are_within name ≡ true → begins_with (codes "//") rest ≡ true → full_name (name ++ rest) ≡ record { profile = name; child = Some (drop 2 rest) }
cut-behind [] [] h slashes = absurd (cc)
cut-behind [] (b ∷ bs) h slashes = rw slashes refl
cut-behind (b ∷ bs) rest h slashes =
    let behind = cut-behind bs rest (and_parts (not (b == slash) || begins (λ c. not (c == slash)) bs) (slashes_are_within bs) h).1 slashes in
    behind_first b (bs ++ rest) (no_slashes b bs rest h) ∙ ap (λ (rest : FullName). record { profile = b ∷ rest.profile; child = rest.child }) behind

cut-child : (name child : List ℕ) → slashes_are_within name ≡ true → full_name (name ++ (codes "//" ++ child)) ≡ record { profile = name; child = Some child }
cut-child name child h = cut-behind name (codes "//" ++ child) h refl

-- an entry that has a name, where some entry has it
named_there : (name : List ℕ) (entries : List Loaded) (place : ℕ) (entry : Loaded) → slice_get entries place ≡ Some entry → bytes_eq entry.profile.name name ≡ true
    → list_any (is_profile_named name) (profiles_of entries) ≡ true
named_there name [] place entry at same = absurd (cc)
named_there name (first ∷ entries) zero entry at same =
    let is : first ≡ entry = cc in
    let here : bytes_eq first.profile.name name ≡ true = ap (λ (e : Loaded). bytes_eq e.profile.name name) is ∙ same in
    rw here refl
named_there name (first ∷ entries) (suc place) entry at same = by (bytes_eq first.profile.name name) (named_there name entries place entry at same)
  where
    by : (here : Bool) → list_any (is_profile_named name) (profiles_of entries) ≡ true → (here || list_any (is_profile_named name) (profiles_of entries)) ≡ true
    by true rest = refl
    by false rest = rest

-- a name that an entry of distinct ones has is found there
found-at : (entries : List Loaded) (place : ℕ) (entry : Loaded) → have_distinct_names entries ≡ true → slice_get entries place ≡ Some entry
    → entry_named entry.profile.name entries ≡ Some entry
found-at [] place entry distinct at = absurd (cc)
found-at (first ∷ entries) zero entry distinct at =
    let is : first ≡ entry = cc in
    let same : bytes_eq first.profile.name entry.profile.name ≡ true = (bytes_eq-Decides first.profile.name entry.profile.name).1 (ap (λ (e : Loaded). e.profile.name) is) in
    rw same (ap (λ (e : Loaded). Some e) is)
found-at (first ∷ entries) (suc place) entry distinct at =
    let parts = and_parts (not (list_any (is_profile_named first.profile.name) (profiles_of entries))) (are_distinct (profiles_of entries)) distinct in
    by (bytes_eq first.profile.name entry.profile.name) refl (not-true (list_any (is_profile_named first.profile.name) (profiles_of entries)) parts.0) (found-at entries place entry parts.1 at)
  where
    by : (same : Bool) → bytes_eq first.profile.name entry.profile.name ≡ same → list_any (is_profile_named first.profile.name) (profiles_of entries) ≡ false
        → entry_named entry.profile.name entries ≡ Some entry → cond same (Some first) (entry_named entry.profile.name entries) ≡ Some entry
    by true e none rest =
        let names : entry.profile.name ≡ first.profile.name = sym ((bytes_eq-Decides first.profile.name entry.profile.name).0 e) in
        let some = named_there first.profile.name entries place entry at ((bytes_eq-Decides entry.profile.name first.profile.name).1 names) in
        absurd (cc)
    by false e none rest = rest

-- a child or a hat that has a name, where some has it
child_there : (name : List ℕ) (children : List Child) (place : ℕ) (child : Child) → slice_get children place ≡ Some child → bytes_eq child.name name ≡ true
    → list_any (is_child_named name) children ≡ true
child_there name [] place child at same = absurd (cc)
child_there name (first ∷ children) zero child at same =
    let is : first ≡ child = cc in
    let here : bytes_eq first.name name ≡ true = ap (λ (c : Child). bytes_eq c.name name) is ∙ same in
    rw here refl
child_there name (first ∷ children) (suc place) child at same = by (bytes_eq first.name name) (child_there name children place child at same)
  where
    by : (here : Bool) → list_any (is_child_named name) children ≡ true → (here || list_any (is_child_named name) children) ≡ true
    by true rest = refl
    by false rest = rest

-- the name of one of distinct children and hats is found at its place
place-at : (children : List Child) (start place : ℕ) (child : Child) → are_distinct_children children ≡ true → slice_get children place ≡ Some child
    → position_from (is_child_named child.name) start children ≡ Some (start + place)
place-at [] start place child distinct at = absurd (cc)
place-at (first ∷ children) start zero child distinct at =
    let is : first ≡ child = cc in
    let same : bytes_eq first.name child.name ≡ true = (bytes_eq-Decides first.name child.name).1 (ap (λ (c : Child). c.name) is) in
    rw same (ap (λ (n : ℕ). Some n) here)
  where
    here : start ≡ start + 0
    here = omega arith
place-at (first ∷ children) start (suc place) child distinct at =
    let parts = and_parts (not (list_any (is_child_named first.name) children)) (are_distinct_children children) distinct in
    by (bytes_eq first.name child.name) refl (not-true (list_any (is_child_named first.name) children) parts.0) (place-at children (start + 1) place child parts.1 at)
  where
    next : start + 1 + place ≡ start + suc place
    next = omega arith

    by : (same : Bool) → bytes_eq first.name child.name ≡ same → list_any (is_child_named first.name) children ≡ false
        → position_from (is_child_named child.name) (start + 1) children ≡ Some (start + 1 + place)
        → cond same (Some start) (position_from (is_child_named child.name) (start + 1) children) ≡ Some (start + suc place)
    by true e none rest =
        let names : child.name ≡ first.name = sym ((bytes_eq-Decides first.name child.name).0 e) in
        let some = child_there first.name children place child at ((bytes_eq-Decides child.name first.name).1 names) in
        absurd (cc)
    by false e none rest = rest ∙ ap (λ (n : ℕ). Some n) next

child-placed : (children : List Child) (place : ℕ) (child : Child) → are_distinct_children children ≡ true → slice_get children place ≡ Some child
    → child_place child.name children ≡ Some place
child-placed children place child distinct at = position_from-zero (is_child_named child.name) children ∙ place-at children 0 place child distinct at ∙ ap (λ (n : ℕ). Some n) none
  where
    none : 0 + place ≡ place
    none = omega arith

-- in a name behind each slash stands a byte that is none
within : (name : List ℕ) → is_top_name name ≡ true → slashes_are_within name ≡ true
within name h =
    let named = and_parts (is_name name) (not (bytes_eq name (codes "unconfined"))) h in
    (and_parts (begins (λ b. not (b == colon || b == ampersand)) name && list_all is_name_byte name) (slashes_are_within name) named.0).1

-- a name isn't the word for no profile
confined : (name : List ℕ) → is_top_name name ≡ true → bytes_eq name (codes "unconfined") ≡ false
confined name h = not-true (bytes_eq name (codes "unconfined")) (and_parts (is_name name) (not (bytes_eq name (codes "unconfined"))) h).1

-- nor is a full name that names a child or a hat
child_confined : (name profile child : List ℕ) → full_name name ≡ record { profile = profile; child = Some child } → bytes_eq name (codes "unconfined") ≡ false
child_confined name profile child cut = by (bytes_eq name (codes "unconfined")) refl
  where
    by : (same : Bool) → bytes_eq name (codes "unconfined") ≡ same → same ≡ false
    by false e = refl
    by true e =
        let is : name ≡ codes "unconfined" = (bytes_eq-Decides name (codes "unconfined")).0 e in
        let none : None ≡ Some child = sym (ap (λ (text : List ℕ). (full_name text).child) is) ∙ ap (λ (cut : FullName). cut.child) cut in
        absurd (cc)

-- what a full name leads to leads who asks by it there too, if the name isn't the word for no profile
abbrev LeadsTo : List Loaded → List ℕ → Asker → Type 0
LeadsTo entries name who = (asker entries name ≡ Some (Some who)) × (named_asker entries (full_name name) ≡ Some who)

both : (entries : List Loaded) (name : List ℕ) (who : Asker) → bytes_eq name (codes "unconfined") ≡ false → named_asker entries (full_name name) ≡ Some who → LeadsTo entries name who
both entries name who word named =
    (ap (λ (is : Bool). cond is (Some None) (option_map (λ (a : Asker). Some a) (named_asker entries (full_name name)))) word ∙ ap (option_map (λ (a : Asker). Some a)) named, named)

-- an entry that is there stands at some place
there-at : (entries : List Loaded) (entry : Loaded) → (there : Contains entries entry) → slice_get entries there.0 ≡ Some entry
there-at entries entry (place, within, is) = slice_get-get_or entries place entry within ∙ ap (λ (e : Loaded). Some e) is

leads : (entries : List Loaded) (entry : Loaded) (child : Option ℕ) → have_distinct_names entries ≡ true → HasFileNames entry.profile → Contains entries entry → StandsAt entry.profile child
    → LeadsTo entries (full_name_at entry.profile child) (record { entry = entry; child = child })
leads entries entry None distinct names there stands =
    let name = entry.profile.name in
    let cut : full_name name ≡ record { profile = name; child = None } = ap full_name (sym (append-nil name)) ∙ cut-name name (within name names.0) in
    let found = found-at entries there.0 entry distinct (there-at entries entry there) in
    both entries name (record { entry = entry; child = None }) (confined name names.0)
    (ap (named_asker entries) cut ∙ ap (option_and_then (entry_asker None)) found)
leads entries entry (Some place) distinct names there (child, at) =
    let profile = entry.profile in
    let name = profile.name ++ (codes "//" ++ child.name) in
    let joined : full_name_at profile (Some place) ≡ name = ap (λ (found : Option Child). profile.name ++ behind_profile found) at in
    let cut : full_name name ≡ record { profile = profile.name; child = Some child.name } = cut-child profile.name child.name (within profile.name names.0) in
    let found = found-at entries there.0 entry distinct (there-at entries entry there) in
    let placed = child-placed profile.children place child names.1 at in
    let who : Asker = record { entry = entry; child = Some place } in
    let named : named_asker entries (full_name name) ≡ Some who =
    ap (named_asker entries) cut
    ∙ ap (option_and_then (entry_asker (Some child.name))) found
    ∙ ap (option_map (λ (place : ℕ). record { entry = entry; child = Some place })) placed
    in
    subst (λ (name : List ℕ). LeadsTo entries name who) (sym joined) (both entries name who (child_confined name profile.name child.name cut) named)

-- a full name that `list` tells leads back to what it was told for
pub listed-leads : ListedNamesLeadBack
listed-leads entries who distinct names listed = leads entries who.entry who.child distinct names listed.0 listed.1
