-- The policy sets of two folders that are alike are alike.
use Rattle.std.proofs.Common.{◌≡◌, ℕ, zero, suc, Bool, true, false, cond, List, [], ◌∷◌, codes, Option, None, Some, refl, sym, ap, subst, ◌∙◌}
use Rattle.std.specs.Prelude.{slice_get}
use Rattle.std.specs.List.{All, Contains, list_all}
use Rattle.std.specs.Option.{option_map}
use Rattle.std.specs.Str.{bytes_eq}
use Rattle.std.proofs.lemmas.Bool.{and_parts}
use Rattle.std.proofs.lemmas.List.Elements.{All-contains, All-nil}
use Rattle.std.proofs.lemmas.Option.{get_or_from_slice_get, slice_get_within}
use Rattle.aa_decide.specs.Exec.{Asker, named_asker}
use Rattle.aa_decide_ready.specs.Entries.{Loaded}
use Rattle.aa_decide_ready.specs.Named.{have_distinct_names}
use Rattle.aa_decide_ready.specs.Ready.{child_rules, rules_at}
use Rattle.aa_decide_ready.specs.Visits.{attachments_at}
use Rattle.aa_explain.specs.AlikePolicies.{AreAlikePolicies, AreConfinedAlike, AreThereAlike, HaveNamesApart, HaveReadRules}
use Rattle.aa_explain.specs.NamedAskers.{IsChildNamed, IsNamed}
use Rattle.aa_explain_diff.specs.Alike.{HaveSameHead, HaveSameTexts}
use Rattle.aa_explain_diff.specs.Features.{are_alike as are_sections_alike}
use Rattle.aa_explain_diff.specs.Sections.{Section}
use Rattle.aa_profile.specs.ReadPatterns.{ChildHasReadPatterns, HasReadPatterns}
use Rattle.aa_profile_data.specs.FullNames.{FullName, full_name}
use Rattle.aa_profile_data.specs.ConflictLaws.{HasReadPattern}
use Rattle.aa_profile_data.specs.Conflicts.{agree, child_agrees, profile_agrees}
use Rattle.aa_profile_data.specs.SameRules.{HaveSameRules}
use Rattle.aa_profile_data.specs.declared.profile.Child.{Child}
use Rattle.aa_profile_data.specs.declared.profile.Profile.{Profile}
use Rattle.aa_set_answers.specs.Askers.{asker}
use Rattle.aa_set_answers.specs.Laws.{HasFileNames, IsListed, StandsAt}
use Rattle.aa_set_answers.specs.ProfileNames.{full_name_at}
use Rattle.aatry_diff.proofs.CountLemmas.{new-there, old-alike, part-there}
use Rattle.aatry_diff.specs.Comparing.{are_alike}
use Rattle.aatry_policy.specs.FolderParts.{parts_in}
use Rattle.aatry_policy.specs.Folders.{Folder, policy_in}
use Rattle.aatry_policy.specs.Laws.{HasOwnRules, IsFirstIn, IsPartOf}
use Rattle.aatry_policy.specs.Parts.{Part, part_of}
use Rattle.aatry_requests.specs.Gathering.{Gathered}

-- what the laws say of who has a full name, of the policy sets of folders, and of sections that are alike
pub record AreLaws : Type 0 where
  pub named : (entries : List Loaded) (name : FullName) (who : Asker) → named_asker entries name ≡ Some who → IsNamed entries name who
  pub back : (folder : Folder) (who : Asker) → IsListed (policy_in folder) who
      → asker (policy_in folder) (full_name_at who.entry.profile who.child) ≡ Some (Some who)
  pub own : (folder : Folder) (who : Asker) → IsListed (policy_in folder) who → HasOwnRules (parts_in folder) who
  pub parts : (folder : Folder) (name : List ℕ) → IsFirstIn (policy_in folder) (parts_in folder) name
  pub apart : (folder : Folder) → have_distinct_names (policy_in folder) ≡ true
  pub names : (folder : Folder) (entry : Loaded) → Contains (policy_in folder) entry → HasFileNames entry.profile
  pub agree : (folder : Folder) (entry : Loaded) → Contains (policy_in folder) entry → profile_agrees entry.profile ≡ true
  pub read : (folder : Folder) (entry : Loaded) → Contains (policy_in folder) entry → HasReadPatterns entry.profile
  pub heads : (one other : Section) → are_sections_alike one other ≡ true → HaveSameHead one other
  pub rules : (one other : Section) → are_sections_alike one other ≡ true → HaveSameRules one.rules other.rules

-- who asks by a name that isn't the word for no profile has that full name
asks-named : (entries : List Loaded) (name : List ℕ) (who : Asker) → asker entries name ≡ Some (Some who)
    → named_asker entries (full_name name) ≡ Some who
asks-named entries name who is = by (bytes_eq name (codes "unconfined")) (named_asker entries (full_name name)) is
  where
    by : (word : Bool) (found : Option Asker) → cond word (Some None) (option_map (λ (a : Asker). Some a) found) ≡ Some (Some who) → found ≡ Some who
    by true found is = let none : None ≡ Some who = cc in absurd (cc)
    by false None is = absurd (cc)
    by false (Some found) is = let own : Some found ≡ Some who = cc in own

-- the one of two full names that one has
child-same : (profile : Profile) (place : Option ℕ) (one other : Option (List ℕ)) → IsChildNamed profile place one
    → IsChildNamed profile place other → one ≡ other
child-same profile None None None here there = refl
child-same profile None None (Some other) here there = absurd there
child-same profile None (Some one) other here there = absurd here
child-same profile (Some place) None other here there = absurd here
child-same profile (Some place) (Some one) None here there = absurd there
child-same profile (Some place) (Some one) (Some other) (child, at, named) (twin, stands, same) =
    let both : Some child ≡ Some twin = sym at ∙ stands in
    let own : child ≡ twin = cc in
    ap (λ (name : List ℕ). Some name) (sym named ∙ ap (λ (c : Child). c.name) own ∙ same)

name-same : (entries : List Loaded) (who : Asker) (one other : FullName) → IsNamed entries one who → IsNamed entries other who → one ≡ other
name-same entries who one other here there =
    let profiles : one.profile ≡ other.profile = sym here.profile ∙ there.profile in
    let children = child-same who.entry.profile who.child one.child other.child here.child there.child in
    λ i. record { profile = profiles i; child = children i }

-- who has a full name is listed
named-listed : (entries : List Loaded) (name : FullName) (who : Asker) → IsNamed entries name who → IsListed entries who
named-listed entries name who is = (is.there, by who.child name.child is.child)
  where
    by : (place : Option ℕ) (child : Option (List ℕ)) → IsChildNamed who.entry.profile place child → StandsAt who.entry.profile place
    by None child is = tt
    by (Some place) None is = absurd is
    by (Some place) (Some child) is = (is.0, is.1)

-- the part of one folder of who has a full name, and that of the other, which is so related to it
pub record HaveParts (R : Part → Part → Type 0) (one two : Folder) (name : FullName) (who : Asker) : Type 0 where
  pub other : Asker
  pub found : named_asker (policy_in two) name ≡ Some other
  pub part : Part
  pub twin : Part
  pub here : IsPartOf who part
  pub there : IsPartOf other twin
  pub related : R part twin

module _ (laws : AreLaws) where
  -- of who is listed, the first part of the full name is its own
  own-part : (folder : Folder) (who : Asker) → IsListed (policy_in folder) who
      → (part : Part) × (part_of (parts_in folder) (full_name_at who.entry.profile who.child) ≡ Some part) × IsPartOf who part
  own-part folder who listed =
      let (part, found, ruled, audited) = laws.own folder who listed in
      let first = laws.parts folder (full_name_at who.entry.profile who.child) part found in
      let (mine, there, is) = first.0 in
      let named = first.1 in
      let both : Some (Some mine) ≡ Some (Some who) =
      sym (laws.back folder mine there) ∙ ap (asker (policy_in folder)) (sym is.name ∙ named) ∙ laws.back folder who listed in
      let equal : mine ≡ who = ap (λ (o : Option (Option Asker)). elim o [ None ↦ mine | Some a ↦ elim a [ None ↦ mine | Some w ↦ w ] ]) both in
      (part, found, subst (λ w. IsPartOf w part) equal is)

  counterpart : (R : Part → Part → Type 0) (one two : Folder)
      → ((part : Part) → Contains (parts_in one) part → (twin : Part) × (part_of (parts_in two) part.name ≡ Some twin) × R part twin)
      → (name : FullName) (who : Asker) → named_asker (policy_in one) name ≡ Some who → HaveParts R one two name who
  counterpart R one two has name who is =
      let named = laws.named (policy_in one) name who is in
      let listed = named-listed (policy_in one) name who named in
      let (part, found, own) = own-part one who listed in
      let (twin, there, related) = has part (part-there (parts_in one) (full_name_at who.entry.profile who.child) part found) in
      let first = laws.parts two part.name twin there in
      let (other, inside, theirs) = first.0 in
      let same = first.1 in
      let text : full_name_at other.entry.profile other.child ≡ full_name_at who.entry.profile who.child = sym theirs.name ∙ same ∙ own.name in
      let here = asks-named (policy_in one) (full_name_at who.entry.profile who.child) who (laws.back one who listed) in
      let stands = asks-named (policy_in two) (full_name_at other.entry.profile other.child) other (laws.back two other inside) in
      let full = name-same (policy_in one) who (full_name (full_name_at who.entry.profile who.child)) name
      (laws.named (policy_in one) (full_name (full_name_at who.entry.profile who.child)) who here) named in
      record {
        other = other;
        found = ap (named_asker (policy_in two)) (sym full ∙ ap full_name (sym text)) ∙ stands;
        part = part;
        twin = twin;
        here = own;
        there = theirs;
        related = related;
      }

  module _ (old new : Folder) (requests : Option Gathered) (alike : are_alike old new requests ≡ true) where
    confined : (name : FullName) (who : Asker) → named_asker (policy_in old) name ≡ Some who
        → (other : Asker) × (named_asker (policy_in new) name ≡ Some other) × AreConfinedAlike who other
    confined name who is =
        let both = counterpart (λ part twin. are_sections_alike part.section twin.section ≡ true) old new (old-alike old new requests alike) name who is in
        let head = laws.heads both.part.section both.twin.section both.related in
        let rules = laws.rules both.part.section both.twin.section both.related in
        let there = laws.named (policy_in old) name who is in (
          both.other,
          both.found,
          record {
            mode = sym both.here.mode ∙ head.mode ∙ both.there.mode;
            audit = sym both.here.audit ∙ head.audit ∙ both.there.audit;
            attachments =
                subst (λ texts. HaveSameTexts texts (attachments_at both.other.entry.profile both.other.child)) both.here.attachments
                (subst (λ texts. HaveSameTexts both.part.section.attachments texts) both.there.attachments head.attachments);
            rules =
                subst (λ own. HaveSameRules own (rules_at both.other.entry.profile both.other.child)) both.here.rules
                (subst (λ own. HaveSameRules both.part.section.rules own) both.there.rules rules);
          },
        )

    back-there : (name : FullName) (other : Asker) → named_asker (policy_in new) name ≡ Some other
        → (who : Asker) × (named_asker (policy_in old) name ≡ Some who)
    back-there name other is =
        let both = counterpart (λ part twin. Unit {0}) new old (λ part there. let (twin, found) = new-there old new requests alike part there in (twin, found, tt)) name other is in
        (both.other, both.found)

    same-named : (name : FullName) → AreThereAlike (named_asker (policy_in old) name) (named_asker (policy_in new) name)
    same-named name = by (named_asker (policy_in old) name) refl (named_asker (policy_in new) name) refl
      where
        by : (one : Option Asker) → named_asker (policy_in old) name ≡ one → (other : Option Asker) → named_asker (policy_in new) name ≡ other
            → AreThereAlike one other
        by None e None f = tt
        by None e (Some other) f =
            let (who, is) = back-there name other f in
            let none : None ≡ Some who = sym e ∙ is in
            absurd (cc)
        by (Some one) e None f =
            let (other, is, same) = confined name one e in
            let none : None ≡ Some other = sym f ∙ is in
            absurd (cc)
        by (Some one) e (Some other) f =
            let (twin, is, same) = confined name one e in
            let both : Some twin ≡ Some other = sym is ∙ f in
            let own : twin ≡ other = cc in
            subst (λ twin. AreConfinedAlike one twin) own same

    names-apart : (folder : Folder) → HaveNamesApart (policy_in folder)
    names-apart folder = (laws.apart folder, λ entry there. (laws.names folder entry there).1)

    pub policies-alike : AreAlikePolicies (policy_in old) (policy_in new)
    policies-alike = record { names = names-apart old; other_names = names-apart new; alike = same-named }

  -- the rules of each that is loaded agree and their patterns read
  pub rules-read : (folder : Folder) → HaveReadRules (policy_in folder)
  rules-read folder who there = by who.child
    where
      agrees : (agree who.entry.profile.rules ≡ true) × (list_all child_agrees who.entry.profile.children ≡ true)
      agrees = and_parts (agree who.entry.profile.rules) (list_all child_agrees who.entry.profile.children) (laws.agree folder who.entry there)

      read : HasReadPatterns who.entry.profile
      read = laws.read folder who.entry there

      each : (children : List Child) → list_all child_agrees children ≡ true → (child : Child) (place : ℕ) → slice_get children place ≡ Some child
          → agree child.rules ≡ true
      each [] all child place at = absurd (cc)
      each (first ∷ children) all child zero at =
          let own : first ≡ child = ap (λ (o : Option Child). elim o [ None ↦ first | Some c ↦ c ]) at in
          ap (λ (c : Child). agree c.rules) (sym own) ∙ (and_parts (agree first.rules) (list_all child_agrees children) all).0
      each (first ∷ children) all child (suc place) at =
          each children (and_parts (agree first.rules) (list_all child_agrees children) all).1 child place at

      at_place : (place : ℕ) (found : Option Child) → slice_get who.entry.profile.children place ≡ found
          → (agree (child_rules found) ≡ true) × All HasReadPattern (child_rules found)
      at_place place None e = (refl, All-nil HasReadPattern)
      at_place place (Some child) e = (
        each who.entry.profile.children agrees.1 child place e,
        All-contains ChildHasReadPatterns who.entry.profile.children child read.1
            (place, slice_get_within who.entry.profile.children place child e, get_or_from_slice_get who.entry.profile.children place child child e),
      )

      by : (place : Option ℕ) → (agree (rules_at who.entry.profile place) ≡ true) × All HasReadPattern (rules_at who.entry.profile place)
      by None = (agrees.0, read.0)
      by (Some place) = at_place place (slice_get who.entry.profile.children place) refl
