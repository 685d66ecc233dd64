-- Who has a full name in one of two policy sets that are alike has a twin in the other: the one who has it there.
use Rattle.std.proofs.Common.{◌≡◌, ℕ, true, List, Option, None, Some, refl, sym, ap, subst, ◌∙◌, Bool, false}
use Rattle.std.specs.Prelude.{if◌then◌else◌}
use Rattle.std.specs.Option.{option_map}
use Rattle.aa_decide.specs.Attachment.{entry_rank}
use Rattle.aa_decide.specs.Exec.{Asker, entry_asker, named_asker}
use Rattle.aa_decide_ready.specs.Entries.{Loaded, is_in_force}
use Rattle.aa_decide_ready.specs.Named.{entry_named}
use Rattle.aa_decide_ready.specs.declared.entry.State.{State}
use Rattle.aa_decide_ready.specs.declared.entry.State.TheVariants.{Disabled, Modes}
use Rattle.aa_explain.proofs.NamedLemmas.{asker-named, child-named, profile-named}
use Rattle.aa_explain.proofs.PatternLemmas.{same-rank}
use Rattle.aa_explain.specs.AlikePolicies.{AreAlikePolicies, AreConfinedAlike, AreThereAlike, HaveOneName, mode_in}
use Rattle.aa_profile_data.specs.FullNames.{FullName}
use Rattle.aa_profile_data.specs.Profile.{child_place}
use Rattle.aa_profile_data.specs.declared.profile.Mode.{Mode}

-- those that are confined alike are so the other way round
pub confined-back : (one other : Asker) → AreConfinedAlike one other → AreConfinedAlike other one
confined-back one other alike = record {
  mode = sym alike.mode;
  audit = sym alike.audit;
  attachments = (alike.attachments.1, alike.attachments.0);
  rules = (alike.rules.1, alike.rules.0);
}

there-back : (one other : Option Asker) → AreThereAlike one other → AreThereAlike other one
there-back None None alike = tt
there-back (Some one) (Some other) alike = confined-back one other alike
there-back None (Some other) alike = absurd alike
there-back (Some one) None alike = absurd alike

-- and so are policy sets
pub policies-back : (entries others : List Loaded) → AreAlikePolicies entries others → AreAlikePolicies others entries
policies-back entries others alike = record {
  names = alike.other_names;
  other_names = alike.names;
  alike = λ name. there-back (named_asker entries name) (named_asker others name) (alike.alike name);
}

-- those that have one full name have it the other way round
pub one-back : (entries others : List Loaded) (one other : Asker) → HaveOneName entries others one other → HaveOneName others entries other one
one-back entries others one other same = record { name = same.name; here = same.there; there = same.here }

-- where one is there, so is the other
there-twin : (one : Asker) (found : Option Asker) → AreThereAlike (Some one) found
    → (other : Asker) × (found ≡ Some other) × AreConfinedAlike one other
there-twin one None alike = absurd alike
there-twin one (Some other) alike = (other, refl, alike)

-- a profile is in force where it confines in some mode
abbrev confines : Option Mode → Bool
confines None = false
confines (Some mode) = true

in-force : (state : State) (child : Option ℕ) → confines (mode_in state child) ≡ is_in_force state
in-force Disabled child = refl
in-force (Modes modes) child = refl

pub same-force : (one other : Asker) → AreConfinedAlike one other → is_in_force one.entry.state ≡ is_in_force other.entry.state
same-force one other alike =
    sym (in-force one.entry.state one.child) ∙ ap confines alike.mode ∙ in-force other.entry.state other.child

-- a profile by itself
abbrev pub itself : Loaded → Asker
itself entry = record { entry = entry; child = None }

-- or its child or hat at a place
abbrev pub child_at : Loaded → ℕ → Asker
child_at entry place = record { entry = entry; child = Some place }

pub same-entry-rank : (path : List ℕ) (one other : Loaded) → AreConfinedAlike (itself one) (itself other)
    → entry_rank path one ≡ entry_rank path other
same-entry-rank path one other alike =
    let force = same-force (itself one) (itself other) alike in
    let ranks = same-rank path one.profile.attachments other.profile.attachments alike.attachments in
    λ i. if force i then ranks i else 0

module _ (entries others : List Loaded) (alike : AreAlikePolicies entries others) where
  -- the one who has the full name in the other policy set
  pub twin : (name : FullName) (one : Asker) → named_asker entries name ≡ Some one
      → (other : Asker) × (named_asker others name ≡ Some other) × AreConfinedAlike one other
  twin name one is =
      there-twin one (named_asker others name) (subst (λ found. AreThereAlike found (named_asker others name)) is (alike.alike name))

  pub same-confined : (one other : Asker) → HaveOneName entries others one other → AreConfinedAlike one other
  same-confined one other same =
      let (found, is, confined) = twin same.name one same.here in
      let own : Some found ≡ Some other = sym is ∙ same.there in
      let equal : found ≡ other = cc in
      subst (λ found. AreConfinedAlike one found) equal confined

  -- of an entry it is the one of the same name
  pub twin-entry : (name : List ℕ) (one : Loaded) → entry_named name entries ≡ Some one
      → (other : Loaded) × (entry_named name others ≡ Some other) × AreConfinedAlike (itself one) (itself other)
  twin-entry name one is =
      let full : FullName = record { profile = name; child = None } in
      let (found, there, confined) = twin full (itself one) (profile-named name entries one is) in
      let (named, own) = asker-named full others found there in
      let equal : itself found.entry ≡ found = ap (λ (o : Option Asker). elim o [ None ↦ found | Some a ↦ a ]) own in
      (found.entry, named, subst (λ found. AreConfinedAlike (itself one) found) (sym equal) confined)

  -- entries of one name have one full name
  pub entries-named : (name : List ℕ) (one other : Loaded) → entry_named name entries ≡ Some one → entry_named name others ≡ Some other
      → HaveOneName entries others (itself one) (itself other)
  entries-named name one other is there = record {
    name = record { profile = name; child = None };
    here = profile-named name entries one is;
    there = profile-named name others other there;
  }

  -- and by each name both have a child or hat that are confined alike, or neither has one
  pub twin-child : (name : List ℕ) (one other : Loaded) → entry_named name entries ≡ Some one → entry_named name others ≡ Some other
      → (child : List ℕ) → AreThereAlike (entry_asker (Some child) one) (entry_asker (Some child) other)
  twin-child name one other is there child =
      subst (λ found. AreThereAlike found (entry_asker (Some child) other)) (child-named name entries one child is)
      (subst (λ found. AreThereAlike (named_asker entries (record { profile = name; child = Some child })) found) (child-named name others other child there)
      (alike.alike (record { profile = name; child = Some child })))

  pub children-named : (name : List ℕ) (one other : Loaded) (child : List ℕ) (place spot : ℕ)
      → entry_named name entries ≡ Some one → entry_named name others ≡ Some other
      → child_place child one.profile.children ≡ Some place → child_place child other.profile.children ≡ Some spot
      → HaveOneName entries others (child_at one place) (child_at other spot)
  children-named name one other child place spot is there at stands = record {
    name = record { profile = name; child = Some child };
    here = child-named name entries one child is ∙ ap (option_map (child_at one)) at;
    there = child-named name others other child there ∙ ap (option_map (child_at other)) stands;
  }
