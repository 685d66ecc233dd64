-- Who asks is one of the loaded profiles, or a child or hat of one.
use Rattle.std.proofs.Common.{◌≡◌, ℕ, zero, suc, ◌<◌, Bool, true, false, cond, List, [], ◌∷◌, length, Option, None, Some, option_map, slice_get, refl, sym, ap, subst, ◌∙◌, arith}
use Rattle.std.proofs.lemmas.List.Quantifiers.{position-Some}
use Rattle.std.specs.Prelude.{codes, option_and_then}
use Rattle.std.specs.Str.{bytes_eq}
use Rattle.aa_decide.specs.Exec.{Asker, entry_asker, named_asker}
use Rattle.aa_decide_ready.specs.Entries.{Loaded}
use Rattle.aa_decide_ready.specs.Named.{entry_named}
use Rattle.aa_decide_ready.specs.Ready.{rules_at}
use Rattle.aa_profile_data.specs.FullNames.{FullName, full_name}
use Rattle.aa_profile_data.specs.Profile.{child_place, is_child_named}
use Rattle.aa_profile_data.specs.declared.profile.Child.{Child}
use Rattle.aa_profile_data.specs.declared.profile.Profile.{Profile}
use Rattle.aa_set_answers.specs.Answers.{who_asks}
use Rattle.aa_set_answers.specs.Askers.{asker}
use Rattle.aa_set_answers.specs.Laws.{StandsAt}
use Rattle.aa_set_commands.specs.Question.{Question}
use Rattle.aa_text_files.specs.Files.{File}
use Rattle.aatry_why.specs.Why.{sources_in}
use Rattle.aatry_why.specs.Laws.{AreOwnRules}
use Rattle.aatry_why.specs.Sources.{written_by}
use Rattle.aa_profile_parsing.specs.declared.language.Language.{Language}
use Rattle.aatry_policy.specs.Folders.{Folder, origins_in, policy_in}
use Rattle.aatry_policy.specs.Origins.{file_of, rule_places}
use Rattle.aatry_policy.specs.PlaceLaws.{AreWrittenIn, IsFoundAt, IsReadAt}
use Rattle.aatry_policy.specs.declared.origins.Origin.{Origin}

there-is : (children : List Child) (at : ℕ) → at < length children → (child : Child) × (slice_get children at ≡ Some child)
there-is [] at within = absurd (omega arith)
there-is (child ∷ children) zero within = (child, refl)
there-is (child ∷ children) (suc at) within = there-is children at (omega arith)

place-there : (children : List Child) (name : List ℕ) (place : ℕ) → child_place name children ≡ Some place
    → (child : Child) × (slice_get children place ≡ Some child)
place-there [] name place is = absurd (cc)
place-there (child ∷ children) name place is =
    there-is (child ∷ children) place (position-Some (is_child_named name) (child ∷ children) place child is).0

-- who has a name, by an entry
by-entry : (who : Asker) (name : Option (List ℕ)) (entry : Loaded) → entry_asker name entry ≡ Some who
    → (entry ≡ who.entry) × StandsAt who.entry.profile who.child
by-entry who None entry is =
    let same : record { entry = entry; child = None } ≡ who = cc in
    (ap (λ (o : Asker). o.entry) same, subst (λ (o : Asker). StandsAt o.entry.profile o.child) same tt)
by-entry who (Some name) entry is = by (child_place name entry.profile.children) refl is
  where
    by : (place : Option ℕ) → child_place name entry.profile.children ≡ place
        → option_map (λ (place : ℕ). record { entry = entry; child = Some place }) place ≡ Some who
        → (entry ≡ who.entry) × StandsAt who.entry.profile who.child
    by None e is = absurd (cc)
    by (Some place) e is =
        let same : record { entry = entry; child = Some place } ≡ who = cc in (
          ap (λ (o : Asker). o.entry) same,
          subst (λ (o : Asker). StandsAt o.entry.profile o.child) same (place-there entry.profile.children name place e),
        )

-- who has a full name
by-name : (entries : List Loaded) (name : FullName) (who : Asker) → named_asker entries name ≡ Some who
    → (entry_named name.profile entries ≡ Some who.entry) × StandsAt who.entry.profile who.child
by-name entries name who is = by (entry_named name.profile entries) refl is
  where
    by : (found : Option Loaded) → entry_named name.profile entries ≡ found → option_and_then (entry_asker name.child) found ≡ Some who
        → (entry_named name.profile entries ≡ Some who.entry) × StandsAt who.entry.profile who.child
    by None e is = absurd (cc)
    by (Some entry) e is = let (same, stands) = by-entry who name.child entry is in (e ∙ ap Some same, stands)

-- who asks
by-word : (entries : List Loaded) (word : List ℕ) (who : Asker) → asker entries word ≡ Some (Some who)
    → (entry_named (full_name word).profile entries ≡ Some who.entry) × StandsAt who.entry.profile who.child
by-word entries word who is = by (bytes_eq word (codes "unconfined")) (named_asker entries (full_name word)) refl is
  where
    by : (free : Bool) (found : Option Asker) → named_asker entries (full_name word) ≡ found
        → cond free (Some None) (option_map (λ (asker : Asker). Some asker) found) ≡ Some (Some who)
        → (entry_named (full_name word).profile entries ≡ Some who.entry) × StandsAt who.entry.profile who.child
    by true found e is = absurd (cc)
    by false None e is = absurd (cc)
    by false (Some other) e is = let same : other ≡ who = cc in by-name entries (full_name word) who (e ∙ ap Some same)

-- what is known of a folder
abbrev pub NamesAreFound : Type 0
NamesAreFound =
    (folder : Folder) (name : List ℕ) (entry : Loaded) → entry_named name (policy_in folder) ≡ Some entry
    → IsFoundAt folder.language folder.files (origins_in folder) name entry.profile

-- and of what was read
abbrev pub RulesAreWritten : Type 0
RulesAreWritten =
    (language : Language) (files : List File) (profile : Profile) (origin : Origin) (child : Option ℕ) → IsReadAt language files profile origin → StandsAt profile child
    → AreWrittenIn language files origin.file child (rules_at profile child) (rule_places (Some origin) child)

pub own-rules : NamesAreFound → RulesAreWritten → (folder : Folder) (question : Question) (who : Asker)
    → asker (policy_in folder) (who_asks question) ≡ Some (Some who) → AreOwnRules folder who (written_by (sources_in folder question) who)
own-rules names rules folder question who is =
    let (named, stands) = by-word (policy_in folder) (who_asks question) who is in
    let (origin, first, read) = names folder (full_name (who_asks question)).profile who.entry named in (
      refl,
      refl,
      subst (λ (o : Option Origin). AreWrittenIn folder.language folder.files (file_of o) who.child (rules_at who.entry.profile who.child) (rule_places o who.child)) (sym first)
          (rules folder.language folder.files who.entry.profile origin who.child read stands),
    )
