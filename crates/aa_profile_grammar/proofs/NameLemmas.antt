-- Names that are kept beside the parts that have them.
use Rattle.std.proofs.Common.{◌≡◌, ℕ, Bool, true, false, cond, List, [], ◌∷◌, ◌++◌, map, refl, sym, ap, ◌∙◌, Bor}
use Rattle.std.specs.Prelude.{◌||◌}
use Rattle.std.specs.BTreeSet.{BTreeSet, contains_by, Updates}
use Rattle.std.specs.Cmp.Lexicographic.{slice_cmp}
use Rattle.std.specs.List.{list_any}
use Rattle.std.specs.Ordering.{is_eq, nat_cmp}
use Rattle.std.specs.Str.{bytes_eq}
use Rattle.std.proofs.lemmas.List.{map-append}
use Rattle.std.proofs.lemmas.List.Folds.{list_any-append}
use Rattle.std.proofs.lemmas.Map.Text.{is_eq-slice_cmp}
use Rattle.aa_profile_rules.specs.declared.rules.Rule.{Rule}
use Rattle.aa_profile_grammar.specs.Blocks.{is_child_of_name, is_of_name}
use Rattle.aa_profile_grammar.specs.code.Names.{AreNamesOf}
use Rattle.aa_profile_grammar.specs.SeenFiles.{seen_member, seen_profile}
use Rattle.aa_profile_grammar.specs.code.Members.{AreNamedWith}
use Rattle.aa_profile_grammar.specs.declared.blocks.Child.{Child}
use Rattle.aa_profile_grammar.specs.declared.blocks.Member.{Member}
use Rattle.aa_profile_grammar.specs.declared.blocks.Member.TheVariants.{OfChild, OfRule}
use Rattle.aa_profile_grammar.specs.declared.blocks.Profile.{Profile}

-- a set of names has one more
abbrev pub Adds : BTreeSet (Bor (List ℕ)) → Bor (List ℕ) → BTreeSet (Bor (List ℕ)) → Type 0
Adds names name more = Updates (λ (x y : Bor (List ℕ)). slice_cmp nat_cmp x.now y.now) names more name true

or-none : (b : Bool) → b ≡ (b || false)
or-none true = refl
or-none false = refl

or-all : (b : Bool) → (b || true) ≡ true
or-all true = refl
or-all false = refl

-- one more name
named-more : (names more : BTreeSet (Bor (List ℕ))) (name : Bor (List ℕ)) (test after : List ℕ → Bool) → Adds names name more → AreNamesOf names test
    → ((other : List ℕ) → after other ≡ (test other || bytes_eq name.now other)) → AreNamesOf more after
named-more names more name test after adds are is other =
    adds.0 (record { ref_ptr = (0, 0); now = other })
    ∙ (by (bytes_eq name.now other) (is_eq-slice_cmp name.now other)
    ∙ (ap (λ first. first || bytes_eq name.now other) (are other) ∙ sym (is other)))
  where
    kept : Bool
    kept = contains_by (λ k. slice_cmp nat_cmp other k.now) names

    by : (same : Bool) → is_eq (slice_cmp nat_cmp name.now other) ≡ same → cond (is_eq (slice_cmp nat_cmp name.now other)) true kept ≡ (kept || same)
    by true e = rw e (sym (or-all kept))
    by false e = rw e (or-none kept)

-- the names of profiles, with one more
pub profiles-named : (names more : BTreeSet (Bor (List ℕ))) (items : List Profile) (profile : Profile) → Adds names profile.head.name more
    → AreNamesOf names (λ name. list_any (is_of_name name) (map seen_profile items)) → AreNamesOf more (λ name. list_any (is_of_name name) (map seen_profile (items ++ profile ∷ [])))
profiles-named names more items profile adds are =
    named-more names more profile.head.name (λ name. list_any (is_of_name name) (map seen_profile items)) (λ name. list_any (is_of_name name) (map seen_profile (items ++ profile ∷ []))) adds are
    (λ other.
    ap (list_any (is_of_name other)) (map-append seen_profile items (profile ∷ []))
    ∙ (list_any-append (is_of_name other) (map seen_profile items) (seen_profile profile ∷ [])
    ∙ ap (λ last. list_any (is_of_name other) (map seen_profile items) || last) (sym (or-none (bytes_eq profile.head.name.now other)))))

-- the names of a block's children and hats, with one more of them
pub children-named : (names more : BTreeSet (Bor (List ℕ))) (items : List Member) (child : Child) → Adds names child.head.name more
    → AreNamesOf names (λ name. list_any (is_child_of_name name) (map seen_member items))
    → AreNamesOf more (λ name. list_any (is_child_of_name name) (map seen_member (items ++ OfChild child ∷ [])))
children-named names more items child adds are =
    named-more names more child.head.name (λ name. list_any (is_child_of_name name) (map seen_member items)) (λ name. list_any (is_child_of_name name) (map seen_member (items ++ OfChild child ∷ []))) adds are
    (λ other.
    ap (list_any (is_child_of_name other)) (map-append seen_member items (OfChild child ∷ []))
    ∙ (list_any-append (is_child_of_name other) (map seen_member items) (seen_member (OfChild child) ∷ [])
    ∙ ap (λ last. list_any (is_child_of_name other) (map seen_member items) || last) (sym (or-none (bytes_eq child.head.name.now other)))))

-- the same with a rule, which has no name
pub rule-named : (names : BTreeSet (Bor (List ℕ))) (items : List Member) (rule : Rule) → AreNamesOf names (λ name. list_any (is_child_of_name name) (map seen_member items))
    → AreNamesOf names (λ name. list_any (is_child_of_name name) (map seen_member (items ++ OfRule rule ∷ [])))
rule-named names items rule are other =
    are other
    ∙ (or-none (list_any (is_child_of_name other) (map seen_member items))
    ∙ (sym (list_any-append (is_child_of_name other) (map seen_member items) (seen_member (OfRule rule) ∷ []))
    ∙ sym (ap (list_any (is_child_of_name other)) (map-append seen_member items (OfRule rule ∷ [])))))

-- the same of a member that is a rule
pub rule-noted : (names : BTreeSet (Bor (List ℕ))) (member : Member) (rule : Rule) → member ≡ OfRule rule → AreNamedWith names member names
rule-noted names member rule e = rw e (λ items are. rule-named names items rule are)

-- and of one that is a child or a hat
pub child-noted : (names more : BTreeSet (Bor (List ℕ))) (member : Member) (child : Child) → member ≡ OfChild child → Adds names child.head.name more → AreNamedWith names member more
child-noted names more member child e adds = rw e (λ items are. children-named names more items child adds are)
