-- Where nothing is told of parts, they answer alike.
use Rattle.std.proofs.Common.{◌≡◌, ◌⊎◌, ℕ, suc, zero, ◌<◌, Bool, true, false, not, ◌||◌, ◌==◌, if◌then◌else◌, List, [], ◌∷◌, ◌++◌, map, refl, sym, ◌∙◌, ap, inl, inr, subst, arith}
use Rattle.std.proofs.lemmas.Bool.{and_parts, eqb-true, or_parts}
use Rattle.std.proofs.lemmas.List.Elements.{All-cons, All-nil}
use Rattle.std.specs.Prelude.{Contains, None, Option, Some, is_some, option_map}
use Rattle.aa_bytes.specs.Texts.{is_empty}
use Rattle.aa_decide_rules.specs.declared.verdict.Answer.{Answer}
use Rattle.aa_decide_rules.specs.declared.verdict.Answer.TheVariants.{Allow, Complain, Deny, Refuse}
use Rattle.aa_decide_rules.specs.declared.verdict.Tag.{Tag}
use Rattle.aa_decide_rules.specs.declared.verdict.Tag.TheVariants.{Allowed, Audit, Denied}
use Rattle.aa_decide_rules.specs.declared.verdict.Verdict.{Verdict}
use Rattle.aa_explain_changes.specs.Changes.{change_between, change_by, change_of as change_of_letter, is_change, same_log, same_or, same_tag}
use Rattle.aa_explain_changes.specs.FileChanges.{AreChangesOf, AreFileChanges, RuleChange, seen_rule_change}
use Rattle.aa_explain_changes.specs.Laws.{LettersDecideSets, NoChangeIsHidden, NothingIsTold}
use Rattle.aa_explain_changes.specs.Rules.{seen_change}
use Rattle.aa_explain_changes.specs.Sides.{Sides, side_verdict}
use Rattle.aa_explain_changes.specs.declared.asking.FileChanges.{FileChanges}
use Rattle.aa_explain_changes.specs.declared.change.Change.TheVariants.{Otherwise, Same}
use Rattle.aa_explain_changes.specs.declared.rules.FileChange.{FileChange as CodeFileChange}
use Rattle.aa_explain_changes.specs.declared.rules.RuleChange.{RuleChange as CodeRuleChange}
use Rattle.aa_explain_diff.specs.Features.{same_state}
use Rattle.aa_explain_start_changes.specs.Laws.{NoStartChangeIsHidden, StartAlike}
use Rattle.aa_explain_start_changes.specs.StartChanges.{AreStartChanges}
use Rattle.aa_explain_start_changes.specs.Starters.{Starters}
use Rattle.aa_explain_start_changes.specs.declared.changes.StartChange.{StartChange}
use Rattle.aa_explain_paths.specs.Claims.{single_letters}
use Rattle.aa_explain_paths.specs.Meant.{may_be_asked}
use Rattle.aa_glob_nfa.specs.Graphs.{AreBytes}
use Rattle.aa_profile_data.specs.declared.profile.Mode.{Mode}
use Rattle.aa_profile_data.specs.declared.profile.Mode.TheVariants.{Complain as InComplain, Enforce as InEnforce, Unconfined as InUnconfined}
use Rattle.aatry_path_changes.specs.Finding.{Both, sides_of}
use Rattle.aatry_path_changes.specs.Kinds.{differs_beside, differs_in_files, gained_beside, is_same, kind_by, kind_of_known, lost_beside, some_told}
use Rattle.aatry_path_changes.specs.Laws.{AnswerAlike, SameAnswerAlike, SayTheSame}
use Rattle.aatry_path_changes.specs.Others.{answers_of, capability_changes, change_of, changed_by, changed_if, other_change, other_changes, request_of, socket_changes, type_changes}
use Rattle.aa_explain_changes.specs.declared.change.Answers.{Answers}
use Rattle.aatry_path_changes.specs.declared.others.Other.{Other}
use Rattle.aatry_path_changes.specs.declared.others.Other.TheVariants.{Capability, Sockets}
use Rattle.aatry_path_changes.specs.declared.others.OtherChange.{OtherChange}
use Rattle.aatry_path_changes.specs.Starts.{AreStartsOf, has_gained_start, has_lost_start, starters_named}
use Rattle.aatry_policy.specs.Parts.{Part}

not-false : (a : Bool) → not a ≡ false → a ≡ true
not-false true h = refl
not-false false h = absurd cc

front-none : {X : Type 0} (front behind : List X) → front ++ behind ≡ [] → front ≡ []
front-none [] behind h = refl
front-none (x ∷ front) behind h = absurd cc

behind-none : {X : Type 0} (front behind : List X) → front ++ behind ≡ [] → behind ≡ []
behind-none [] behind h = h
behind-none (x ∷ front) behind h = absurd cc

empty-none : (changes : List OtherChange) → is_empty changes ≡ true → changes ≡ []
empty-none [] h = refl
empty-none (x ∷ changes) h = absurd cc

below-cases : (m n : ℕ) → m < suc n → (m ≡ n) ⊎ (m < n)
below-cases zero zero h = inl refl
below-cases zero (suc n) h = inr (omega arith)
below-cases (suc m) zero h = absurd (omega (arith, h))
below-cases (suc m) (suc n) h = elim (below-cases m n (omega (arith, h))) [
  | inl same ↦ inl (ap suc same)
  | inr less ↦ inr (omega (arith, less))
]

-- where nothing of the capabilities below a number changes, none of these changes
capability-none : (sides : Sides) (n m : ℕ) → m < n → capability_changes sides n ≡ [] → changed_if sides (Capability m) ≡ []
unfolding capability_changes
capability-none sides zero m less none = absurd (omega (arith, less))
capability-none sides (suc n) m less none = elim (below-cases m n less) [
  | inl same ↦ subst (λ k. changed_if sides (Capability k) ≡ []) (sym same) (behind-none (capability_changes sides n) (changed_if sides (Capability n)) none)
  | inr less ↦ capability-none sides n m less (front-none (capability_changes sides n) (changed_if sides (Capability n)) none)
]

type-none : (sides : Sides) (domain n m : ℕ) → m < n → type_changes sides domain n ≡ [] → changed_if sides (Sockets domain m) ≡ []
unfolding type_changes
type-none sides domain zero m less none = absurd (omega (arith, less))
type-none sides domain (suc n) m less none = elim (below-cases m n less) [
  | inl same ↦ subst (λ k. changed_if sides (Sockets domain k) ≡ []) (sym same) (behind-none (type_changes sides domain n) (changed_if sides (Sockets domain n)) none)
  | inr less ↦ type-none sides domain n m less (front-none (type_changes sides domain n) (changed_if sides (Sockets domain n)) none)
]

socket-none : (sides : Sides) (n m : ℕ) → m < n → socket_changes sides n ≡ [] → type_changes sides m 6 ≡ []
unfolding socket_changes
socket-none sides zero m less none = absurd (omega (arith, less))
socket-none sides (suc n) m less none = elim (below-cases m n less) [
  | inl same ↦ subst (λ k. type_changes sides k 6 ≡ []) (sym same) (behind-none (socket_changes sides n) (type_changes sides n 6) none)
  | inr less ↦ socket-none sides n m less (front-none (socket_changes sides n) (type_changes sides n 6) none)
]

-- what isn't told doesn't change
unchanged : (quiet : Bool) (other : Other) (answers : Answers) → changed_by quiet other answers ≡ [] → is_change (change_of quiet answers) ≡ false
unchanged quiet other answers none = by (is_change (change_of quiet answers)) none
  where
    by : (b : Bool) → (if b then other_change quiet other answers ∷ [] else []) ≡ [] → b ≡ false
    by false none = refl
    by true none = absurd cc

-- two that are in the same mode are in one
state-equal : (one other : Option Mode) → same_state one other ≡ true → one ≡ other
state-equal None None h = refl
state-equal None (Some mode) h = absurd cc
state-equal (Some mode) None h = absurd cc
state-equal (Some InEnforce) (Some InEnforce) h = refl
state-equal (Some InComplain) (Some InComplain) h = refl
state-equal (Some InUnconfined) (Some InUnconfined) h = refl
state-equal (Some InEnforce) (Some InComplain) h = absurd cc
state-equal (Some InEnforce) (Some InUnconfined) h = absurd cc
state-equal (Some InComplain) (Some InEnforce) h = absurd cc
state-equal (Some InComplain) (Some InUnconfined) h = absurd cc
state-equal (Some InUnconfined) (Some InEnforce) h = absurd cc
state-equal (Some InUnconfined) (Some InComplain) h = absurd cc

-- where no path is told of any of some rules, nothing is told of any
nothing-told : (changes : List CodeRuleChange) → some_told changes ≡ false → NothingIsTold (map seen_rule_change changes)
nothing-told [] h = All-nil (λ (change : RuleChange). change.told ≡ None)
nothing-told (change ∷ changes) h =
    All-cons (λ (change : RuleChange). change.told ≡ None) (seen_rule_change change) (map seen_rule_change changes)
    (none change.change (or_parts (is_some change.change) (some_told changes) h).0) (nothing-told changes (or_parts (is_some change.change) (some_told changes) h).1)
  where
    none : (told : Option CodeFileChange) → is_some told ≡ false → option_map seen_change told ≡ None
    none None h = refl
    none (Some change) h = absurd cc

file-alike : NoChangeIsHidden → (sides : Sides) (files : FileChanges) → AreFileChanges sides files → differs_in_files files ≡ false
    → (path : List ℕ) (owned : Bool) (letter : ℕ) → AreBytes path → may_be_asked path ≡ true → Contains single_letters letter
    → change_of_letter sides path owned letter ≡ Same
file-alike hidden sides files right none path owned letter bytes asked at =
    hidden sides files right (nothing-told files.old.items (or_parts (some_told files.old.items) (some_told files.new.items) none).0)
    (nothing-told files.new.items (or_parts (some_told files.old.items) (some_told files.new.items) none).1) path bytes asked owned letter at

-- answers that are logged alike are logged by one tag, and with one mask
tag-equal : (one other : Option Tag) → same_tag one other ≡ true → one ≡ other
tag-equal None None h = refl
tag-equal None (Some tag) h = absurd cc
tag-equal (Some Denied) None h = absurd cc
tag-equal (Some Allowed) None h = absurd cc
tag-equal (Some Audit) None h = absurd cc
tag-equal (Some Denied) (Some Denied) h = refl
tag-equal (Some Denied) (Some Allowed) h = absurd cc
tag-equal (Some Denied) (Some Audit) h = absurd cc
tag-equal (Some Allowed) (Some Denied) h = absurd cc
tag-equal (Some Allowed) (Some Allowed) h = refl
tag-equal (Some Allowed) (Some Audit) h = absurd cc
tag-equal (Some Audit) (Some Denied) h = absurd cc
tag-equal (Some Audit) (Some Allowed) h = absurd cc
tag-equal (Some Audit) (Some Audit) h = refl

-- an answer that doesn't change, nor how it is logged, is the same
same-verdict : (one other : Verdict) → change_between false one other ≡ Same → one ≡ other
same-verdict one other is = by one.answer other.answer refl refl is
  where
    logged : same_or false one other ≡ Same → same_log one other ≡ true
    logged h = true-by (same_log one other) h
      where
        true-by : (b : Bool) → (if b then Same else Otherwise) ≡ Same → b ≡ true
        true-by true h = refl
        true-by false h = absurd cc

    equal : one.answer ≡ other.answer → same_or false one other ≡ Same → one ≡ other
    equal answers h =
        let tags = tag-equal one.tag other.tag (and_parts (same_tag one.tag other.tag) (one.mask.0 == other.mask.0) (logged h)).0 in
        let masks = eqb-true one.mask.0 other.mask.0 (and_parts (same_tag one.tag other.tag) (one.mask.0 == other.mask.0) (logged h)).1 in
        λ i. record { answer = answers i; tag = tags i; mask = record { 0 = masks i } }

    by : (before now : Answer) → one.answer ≡ before → other.answer ≡ now → change_by false one other before now ≡ Same → one ≡ other
    by Allow Allow was is h = equal (was ∙ sym is) h
    by Allow Deny was is h = absurd cc
    by Allow Refuse was is h = absurd cc
    by Allow Complain was is h = absurd cc
    by Deny Allow was is h = absurd cc
    by Refuse Allow was is h = absurd cc
    by Complain Allow was is h = absurd cc
    by Deny Deny was is h = equal (was ∙ sym is) h
    by Refuse Refuse was is h = equal (was ∙ sym is) h
    by Complain Complain was is h = equal (was ∙ sym is) h
    by Deny Refuse was is h = absurd cc
    by Deny Complain was is h = absurd cc
    by Refuse Deny was is h = absurd cc
    by Refuse Complain was is h = absurd cc
    by Complain Deny was is h = absurd cc
    by Complain Refuse was is h = absurd cc

-- so sides of which no letter is answered otherwise say the same of any letters
say-same : LettersDecideSets → (sides : Sides) (path : List ℕ) (owned : Bool) → sides.quiet ≡ false
    → ((letter : ℕ) → Contains single_letters letter → change_of_letter sides path owned letter ≡ Same) → SayTheSame sides path owned
say-same decide sides path owned loud same =
    decide sides.old sides.new path owned
    (λ letter at. same-verdict (side_verdict sides.old path owned letter) (side_verdict sides.new path owned letter)
    (ap (λ quiet. change_between quiet (side_verdict sides.old path owned letter) (side_verdict sides.new path owned letter)) (sym loud) ∙ same letter at))

-- the word says that nothing is answered otherwise
kind-otherwise : (gained lost otherwise : Bool) → is_same (kind_by gained lost otherwise) ≡ true → otherwise ≡ false
kind-otherwise false false false h = refl
kind-otherwise false false true h = absurd cc
kind-otherwise false true otherwise h = absurd cc
kind-otherwise true false otherwise h = absurd cc
kind-otherwise true true otherwise h = absurd cc

-- where no start is told, all are alike
no-starts : (starts : List StartChange) → is_empty starts ≡ true → starts ≡ []
no-starts [] h = refl
no-starts (start ∷ starts) h = absurd cc

starts-alike : NoStartChangeIsHidden → (starters : Starters) (limit : ℕ) (starts : List StartChange) → AreStartsOf starters limit (Some starts)
    → is_empty starts ≡ true → StartAlike starters
starts-alike hidden starters limit starts right none = hidden starters (subst (AreStartChanges starters) (no-starts starts none) right)

alike-by : NoChangeIsHidden → LettersDecideSets → NoStartChangeIsHidden → (quiet : Bool) (limit : ℕ) (starters : Starters) (part other : Part) (both : Both)
    → both.part ≡ part → both.other ≡ other → both.others ≡ other_changes (sides_of quiet part other)
    → (files : Option FileChanges) → AreChangesOf (sides_of quiet part other) limit files
    → (starts : Option (List StartChange)) → AreStartsOf starters limit starts
    → is_same (kind_of_known both files starts) ≡ true → AnswerAlike quiet starters part other
alike-by hidden decide started quiet limit starters part other both same also others None right starts told is = absurd cc
alike-by hidden decide started quiet limit starters part other both same also others (Some files) right None told is = absurd cc
alike-by hidden decide started quiet limit starters part other both same also others (Some files) right (Some starts) told is =
    let sides = sides_of quiet part other in
    let all : (differs_beside both || differs_in_files files) || not (is_empty starts) ≡ false =
    kind-otherwise ((files.gained || gained_beside both) || has_gained_start starts) ((files.lost || lost_beside both) || has_lost_start starts)
    ((differs_beside both || differs_in_files files) || not (is_empty starts)) is in
    let none = (or_parts (differs_beside both || differs_in_files files) (not (is_empty starts)) all).0 in
    let no-start = not-false (is_empty starts) (or_parts (differs_beside both || differs_in_files files) (not (is_empty starts)) all).1 in
    let beside = (or_parts (differs_beside both) (differs_in_files files) none).0 in
    let mode = not-false (same_state both.part.section.mode both.other.section.mode)
    (or_parts (not (same_state both.part.section.mode both.other.section.mode)) (not (is_empty both.others)) beside).0 in
    let no-others : other_changes sides ≡ [] =
    sym others ∙ empty-none both.others (not-false (is_empty both.others)
    (or_parts (not (same_state both.part.section.mode both.other.section.mode)) (not (is_empty both.others)) beside).1) in
    let capabilities = front-none (capability_changes sides 41) (socket_changes sides 44) no-others in
    let sockets = behind-none (capability_changes sides 41) (socket_changes sides 44) no-others in
    let letters = file-alike hidden sides files right (or_parts (differs_beside both) (differs_in_files files) none).1 in
    record {
      mode = ap (λ (p : Part). p.section.mode) (sym same) ∙ state-equal both.part.section.mode both.other.section.mode mode ∙ ap (λ (p : Part). p.section.mode) also;
      files = letters;
      together = λ path owned bytes asked loud. say-same decide sides path owned loud (λ letter at. letters path owned letter bytes asked at);
      capabilities = λ number less. unchanged quiet (Capability number) (answers_of sides (request_of (Capability number))) (capability-none sides 41 number less capabilities);
      sockets = λ domain kind less few. unchanged quiet (Sockets domain kind) (answers_of sides (request_of (Sockets domain kind)))
          (type-none sides domain 6 kind few (socket-none sides 44 domain less sockets));
      starts = starts-alike started starters limit starts told no-start;
    }

pub same-alike : NoChangeIsHidden → LettersDecideSets → NoStartChangeIsHidden → SameAnswerAlike
same-alike hidden decide started quiet limit policies part other both right is =
    alike-by hidden decide started quiet limit (starters_named policies part.name) part other both right.part right.other right.others both.files right.files
    both.starts right.starts is
