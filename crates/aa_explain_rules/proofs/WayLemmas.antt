-- Rules in the way of the one that a request lacks are those that conflict with it.
use Rattle.std.proofs.Common.{◌≡◌, ◌∙◌, ℕ, ◌^◌, ◌<◌, Bool, true, false, not, ◌&&◌, List, [], ◌∷◌, ◌++◌, Ok, Option, None, Some, ◌↔◌, refl, sym, ap, subst, inl, inr, append-nil, append_assoc}
use Rattle.std.specs.Prelude.{All, ◌+◌, ◌==◌, if◌then◌else◌, is_none, nat_lt}
use Rattle.std.specs.List.{list_any}
use Rattle.std.proofs.lemmas.Bool.{and_parts, cases_Bool, false≢true}
use Rattle.std.proofs.lemmas.List.Elements.{All-cons, All-head, All-nil, All-tail}
use Rattle.aa_glob.specs.Laws.{bytes_pattern, quoted}
use Rattle.aa_glob_syntax.specs.Exactness.{is_exact}
use Rattle.aa_glob_syntax.specs.Matching.{matches}
use Rattle.aa_glob_syntax.specs.Reading.{HasNoFirstFault, items_of, items_read, reading}
use Rattle.aa_profile_data.specs.Access.{EXEC, has}
use Rattle.aa_profile_data.specs.ExecWords.{same_word}
use Rattle.aa_profile_data.specs.Request.{ForCapability, ForFile, ForSockets, Request}
use Rattle.aa_profile_data.specs.declared.exec_word.ExecWord.{ExecWord}
use Rattle.aa_profile_data.specs.declared.exec_word.ExecWord.TheVariants.{Inherit}
use Rattle.aa_profile_data.specs.ConflictLaws.{HasReadPattern}
use Rattle.aa_profile_data.specs.Conflicts.{Conflict, Lead, agree, conflict, first_conflict, lead_of, same_target, same_transition}
use Rattle.aa_profile_data.specs.Ranks.{same_rank}
use Rattle.aa_profile_data.specs.declared.profile.Rank.{Rank}
use Rattle.aa_profile_data.specs.declared.profile.Rank.TheVariants.{Last, Loose, Plain}
use Rattle.aa_profile_data.specs.declared.profile.Rule.{Rule}
use Rattle.aa_profile_data.specs.declared.profile.Rule.TheVariants.{Cap, File, Net}
use Rattle.aa_profile_data.specs.declared.profile.Transition.{Transition}
use Rattle.aa_explain_rules.proofs.MissingLemmas.{MatchesItself, ReadsAsItself, file-made}
use Rattle.aa_explain_rules.specs.InTheWay.{in_the_way, is_in_the_way, leads_elsewhere}
use Rattle.aa_explain_rules.specs.Missing.{cap_rule_for, file_rule_for, inherit, lacked, missing_rule, net_rule_for, rank_for, rule_for, transition_for}
use Rattle.aa_profile_data.specs.Kinds.{is_protocol}
use Rattle.aa_explain_rules.specs.Told.{places_where}

-- the exec word and the target of one that leads to who starts it
is-inherit : (word : ExecWord) → same_word word Inherit ≡ true → word ≡ Inherit
is-inherit Inherit h = refl
is-inherit _ h = absurd cc

no-target : (target : Option (List ℕ)) → same_target target None ≡ true → target ≡ None
no-target None h = refl
no-target (Some text) h = absurd cc

is-own : (transition : Transition) → same_transition transition inherit ≡ true → transition ≡ inherit
is-own transition h =
    let parts = and_parts (same_word transition.word Inherit) (same_target transition.target None) h in
    ap (λ (word : ExecWord). record transition { word = word }) (is-inherit transition.word parts.0)
    ∙ ap (λ (target : Option (List ℕ)). record inherit { target = target }) (no-target transition.target parts.1)

is-plain : (rank : Rank) → same_rank rank Plain ≡ true → rank ≡ Plain
is-plain Plain h = refl
is-plain Loose h = absurd cc
is-plain Last h = absurd cc

by-test : (b : Bool) → (b ≡ true → ⊥) → b ≡ false
by-test true never = absurd (never refl)
by-test false never = refl

not-true : (b : Bool) → not b ≡ true → b ≡ false
not-true true is = absurd cc
not-true false is = refl

all-three : (a b c : Bool) → a ≡ true → b ≡ false → c ≡ true → (a && (not b && c)) ≡ true
all-three a b c first second third = rw (first, second, third) refl

-- bytes are exact
exact-bytes : (path : List ℕ) → is_exact (bytes_pattern path) ≡ true
exact-bytes [] = refl
exact-bytes (b ∷ bs) = exact-bytes bs

-- what a request lacks, where a rule is made for it
lacked-made : (request : Request) (rules : List Rule) (own : Rule) → missing_rule request rules ≡ Some own → rule_for request (lacked request rules) ≡ Some own
lacked-made request rules own h = by (lacked request rules == 0) refl h
  where
    by : (b : Bool) → (lacked request rules == 0) ≡ b → missing_rule request rules ≡ Some own → rule_for request (lacked request rules) ≡ Some own
    by true e h = let wrong : None ≡ Some own = rw (missing_rule, e) at h in absurd cc
    by false e h = rw (missing_rule, e) at h

-- A rule that lets some needs of a path, among them its start.
module _ (reads : ReadsAsItself) (matched : MatchesItself) (owned : Bool) (path : List ℕ) (needs : ℕ) (fine : HasNoFirstFault (quoted path)) where
  abbrev own : Rule
  own = File (file_rule_for owned path needs)

  abbrev lead : Lead
  lead = record { pattern = quoted path; rank = Plain; transition = inherit }

  own-reads : reading (quoted path) ≡ Ok (items_of (quoted path))
  own-reads = let is = reads path fine in is ∙ ap Ok (sym (ap items_read is))

  own-exact : is_exact (items_of (quoted path)) ≡ true
  own-exact = ap (λ read. is_exact (items_read read)) (reads path fine) ∙ exact-bytes path

  own-lead : has needs EXEC ≡ true → lead_of own ≡ Some lead
  own-lead starts = rw (lead_of, transition_for, rank_for, starts, own-exact) refl

  own-leads-not : has needs EXEC ≡ false → lead_of own ≡ None
  own-leads-not stays = rw (lead_of, transition_for, stays) refl

  -- what leads the path elsewhere
  abbrev IsElsewhere : Lead → Type 0
  IsElsewhere there = (there.rank ≡ Plain) × (same_transition there.transition inherit ≡ false) × (matches (items_of there.pattern) path ≡ true)

  elsewhere-by : (rule : Rule) (there : Lead) → lead_of rule ≡ Some there → IsElsewhere there → leads_elsewhere path rule ≡ true
  elsewhere-by rule there is (plain, away, match) =
      ap (λ (found : Option Lead). elim found [
        | None ↦ false
        | Some lead ↦ same_rank lead.rank Plain && (not (same_transition lead.transition inherit) && matches (items_of lead.pattern) path)
      ]) is
      ∙ all-three (same_rank there.rank Plain) (same_transition there.transition inherit) (matches (items_of there.pattern) path)
      (ap (λ rank. same_rank rank Plain) plain) away match

  elsewhere-parts : (rule : Rule) → leads_elsewhere path rule ≡ true → (there : Lead) × (lead_of rule ≡ Some there) × IsElsewhere there
  elsewhere-parts rule h = by (lead_of rule) refl h
    where
      by : (found : Option Lead) → lead_of rule ≡ found → elim found [
        | None ↦ false
        | Some lead ↦ same_rank lead.rank Plain && (not (same_transition lead.transition inherit) && matches (items_of lead.pattern) path)
      ] ≡ true → (there : Lead) × (lead_of rule ≡ Some there) × IsElsewhere there
      by None e h = absurd cc
      by (Some there) e h =
          let one = and_parts (same_rank there.rank Plain) (not (same_transition there.transition inherit) && matches (items_of there.pattern) path) h in
          let two = and_parts (not (same_transition there.transition inherit)) (matches (items_of there.pattern) path) one.1 in
          (there, e, (is-plain there.rank one.0, not-true (same_transition there.transition inherit) two.0, two.1))

  -- a rule that conflicts with it leads the path elsewhere
  conflict-elsewhere : (rule : Rule) → Conflict own rule → (has needs EXEC && leads_elsewhere path rule) ≡ true
  conflict-elsewhere rule h = elim (cases_Bool (has needs EXEC)) [ inl starts ↦ starting starts | inr stays ↦ staying stays ]
    where
      starting : has needs EXEC ≡ true → (has needs EXEC && leads_elsewhere path rule) ≡ true
      starting starts =
          let is : Some lead ≡ Some h.here = sym (own-lead starts) ∙ h.leads_here in
          let same : lead ≡ h.here = cc in
          let (text, bytes, one, other) = h.overlap in
          let one_here : matches (items_of (quoted path)) text ≡ true = ap (λ (l : Lead). matches (items_of l.pattern) text) same ∙ one in
          let at : text ≡ path = (matched path text fine).0 one_here in
          let plain : (h.there).rank ≡ Plain = sym h.alike ∙ sym (ap (λ (l : Lead). l.rank) same) in
          let to : inherit ≡ (h.here).transition = ap (λ (l : Lead). l.transition) same in
          let away : same_transition (h.there).transition inherit ≡ false =
          by-test (same_transition (h.there).transition inherit) (λ is. h.differ (sym to ∙ sym (is-own (h.there).transition is))) in
          let match : matches (items_of (h.there).pattern) path ≡ true = ap (λ t. matches (items_of (h.there).pattern) t) (sym at) ∙ other in
          rw starts (elsewhere-by rule h.there h.leads_there (plain, away, match))

      staying : has needs EXEC ≡ false → (has needs EXEC && leads_elsewhere path rule) ≡ true
      staying stays = let wrong : None ≡ Some h.here = sym (own-leads-not stays) ∙ h.leads_here in absurd cc

  elsewhere-conflicts : All (λ b. b < 2 ^ 8) path → (rule : Rule) → (has needs EXEC && leads_elsewhere path rule) ≡ true → Conflict own rule
  elsewhere-conflicts bytes rule h =
      let both = and_parts (has needs EXEC) (leads_elsewhere path rule) h in
      let (there, leads, (plain, away, match)) = elsewhere-parts rule both.1 in
      record {
        here = lead;
        there = there;
        leads_here = own-lead both.0;
        leads_there = leads;
        alike = sym plain;
        differ = λ same. false≢true (sym away ∙ ap (λ (t : Transition). same_transition t inherit) (sym same));
        overlap = (path, bytes, (matched path path fine).1 refl, match);
      }

-- What is in the way of the rule that a request lacks.
module _ (reads : ReadsAsItself) (matched : MatchesItself) (letters : ℕ) (owned : Bool) (path : List ℕ) (rules : List Rule) (own : Rule)
    (h : missing_rule (ForFile letters owned path) rules ≡ Some own) where
  abbrev asked : Request
  asked = ForFile letters owned path

  made-own : (own ≡ File (file_rule_for owned path (lacked asked rules))) × HasNoFirstFault (quoted path)
  made-own = file-made letters owned path (lacked asked rules) own (lacked-made asked rules own h)

  pub in-the-way : All (λ b. b < 2 ^ 8) path → (rule : Rule) → (is_in_the_way asked (lacked asked rules) rule ≡ true ↔ Conflict own rule)
  in-the-way bytes rule =
      let (is, fine) = made-own in (
        λ way. subst (λ one. Conflict one rule) (sym is) (elsewhere-conflicts reads matched owned path (lacked asked rules) fine bytes rule way),
        λ apart. conflict-elsewhere reads matched owned path (lacked asked rules) fine rule (subst (λ one. Conflict one rule) is apart),
      )

  pub conflicts-in-the-way : (rule : Rule) → Conflict own rule → is_in_the_way asked (lacked asked rules) rule ≡ true
  conflicts-in-the-way rule apart =
      let (is, fine) = made-own in
      conflict-elsewhere reads matched owned path (lacked asked rules) fine rule (subst (λ one. Conflict one rule) is apart)

  pub own-reads-itself : HasReadPattern own
  own-reads-itself = let (is, fine) = made-own in subst HasReadPattern (sym is) (own-reads reads matched owned path (lacked asked rules) fine)

-- a rule behind some agrees with them where it conflicts with none
first-more : (before rules : List Rule) (rule : Rule) → first_conflict before rules ≡ None → list_any (conflict rule) (before ++ rules) ≡ false
    → first_conflict before (rules ++ rule ∷ []) ≡ None
first-more before [] rule none away =
    let off : list_any (conflict rule) before ≡ false = ap (list_any (conflict rule)) (sym (append-nil before)) ∙ away in rw off refl
first-more before (other ∷ rules) rule none away =
    by (list_any (conflict other) before) refl (first_conflict (before ++ other ∷ []) rules) refl none
    (λ none. first-more (before ++ other ∷ []) rules rule none (ap (list_any (conflict rule)) (append_assoc before (other ∷ []) rules) ∙ away))
  where
    by : (b : Bool) → list_any (conflict other) before ≡ b → (found : Option ℕ) → first_conflict (before ++ other ∷ []) rules ≡ found
        → first_conflict before (other ∷ rules) ≡ None
        → (first_conflict (before ++ other ∷ []) rules ≡ None → first_conflict (before ++ other ∷ []) (rules ++ rule ∷ []) ≡ None)
        → first_conflict before (other ∷ rules ++ rule ∷ []) ≡ None
    by true e found f none more = let wrong = rw e at none in absurd cc
    by false e (Some k) f none more = let wrong = rw (e, f) at none in absurd cc
    by false e None f none more = let rest = more f in rw (e, rest) refl

-- none conflicts where none is in the way
none-any : (test other : Rule → Bool) (rules : List Rule) (first : ℕ) → All (λ rule. other rule ≡ true → test rule ≡ true) rules
    → places_where test first rules ≡ [] → list_any other rules ≡ false
none-any test other [] first all none = refl
none-any test other (rule ∷ rules) first all none =
    by (test rule) refl (other rule) refl none (none-any test other rules (first + 1) (All-tail (λ rule. other rule ≡ true → test rule ≡ true) rule rules all))
  where
    by : (t : Bool) → test rule ≡ t → (o : Bool) → other rule ≡ o → places_where test first (rule ∷ rules) ≡ []
        → (places_where test (first + 1) rules ≡ [] → list_any other rules ≡ false) → list_any other (rule ∷ rules) ≡ false
    by true e o f none more = let wrong = rw e at none in absurd cc
    by false e true f none more =
        absurd (false≢true (sym e ∙ All-head (λ rule. other rule ≡ true → test rule ≡ true) rule rules all f))
    by false e false f none more = let rest = more (rw e at none) in rw (f, rest) refl

-- conflicts are as they are tested, where patterns read
abbrev pub AreConflictsExact : Type 0
AreConflictsExact = (one other : Rule) → HasReadPattern one → HasReadPattern other → (conflict one other ≡ true ↔ Conflict one other)

none-there : (found : Option ℕ) → is_none found ≡ true → found ≡ None
none-there None is = refl
none-there (Some k) is = absurd cc

-- a rule with no exec word conflicts with none
calm : (own rule : Rule) → lead_of own ≡ None → conflict own rule ≡ false
calm own rule none = rw (conflict, none) refl

all-calm : (own : Rule) (rules : List Rule) → lead_of own ≡ None → list_any (conflict own) rules ≡ false
all-calm own [] none = refl
all-calm own (rule ∷ rules) none = let here = calm own rule none in let rest = all-calm own rules none in rw (here, rest) refl

-- nor does the one that a capability or sockets lack
of-capability : (number needs : ℕ) (own : Rule) → rule_for (ForCapability number) needs ≡ Some own → lead_of own ≡ None
of-capability number needs own h = by (nat_lt number 64) h
  where
    by : (b : Bool) → (if b then Some (Cap (cap_rule_for number)) else None) ≡ Some own → lead_of own ≡ None
    by true h = let is : Cap (cap_rule_for number) ≡ own = cc in ap lead_of (sym is)
    by false h = absurd cc

of-sockets : (domain kind needs : ℕ) (own : Rule) → rule_for (ForSockets domain kind) needs ≡ Some own → lead_of own ≡ None
of-sockets domain kind needs own h = by (is_protocol kind) h
  where
    by : (b : Bool) → (if b then None else Some (Net (net_rule_for domain kind))) ≡ Some own → lead_of own ≡ None
    by true h = absurd cc
    by false h = let is : Net (net_rule_for domain kind) ≡ own = cc in ap lead_of (sym is)

-- a rule is in the way of the one that a request lacks, where they conflict
abbrev pub Blocks : Request → List Rule → Rule → Rule → Type 0
Blocks request rules missed rule = conflict missed rule ≡ true → is_in_the_way request (lacked request rules) rule ≡ true

module _ (reads : ReadsAsItself) (matched : MatchesItself) (exact : AreConflictsExact) where
  all-in-the-way : (letters : ℕ) (owned : Bool) (path : List ℕ) (rules : List Rule) (missed : Rule) → missing_rule (ForFile letters owned path) rules ≡ Some missed
      → (others : List Rule) → All HasReadPattern others → All (Blocks (ForFile letters owned path) rules missed) others
  all-in-the-way letters owned path rules missed h [] read = All-nil (Blocks (ForFile letters owned path) rules missed)
  all-in-the-way letters owned path rules missed h (rule ∷ others) read =
      let here : Blocks (ForFile letters owned path) rules missed rule =
      λ is. conflicts-in-the-way reads matched letters owned path rules missed h rule
      ((exact missed rule (own-reads-itself reads matched letters owned path rules missed h) (All-head HasReadPattern rule others read)).0 is) in
      All-cons (Blocks (ForFile letters owned path) rules missed) rule others here
      (all-in-the-way letters owned path rules missed h others (All-tail HasReadPattern rule others read))

  none-conflicts : (request : Request) (rules : List Rule) (own : Rule) → missing_rule request rules ≡ Some own → All HasReadPattern rules
      → in_the_way request rules ≡ [] → list_any (conflict own) rules ≡ false
  none-conflicts (ForFile letters owned path) rules own h read none =
      none-any (is_in_the_way (ForFile letters owned path) (lacked (ForFile letters owned path) rules)) (conflict own) rules 0
      (all-in-the-way letters owned path rules own h rules read) none
  none-conflicts (ForCapability number) rules own h read none =
      all-calm own rules (of-capability number (lacked (ForCapability number) rules) own (lacked-made (ForCapability number) rules own h))
  none-conflicts (ForSockets domain kind) rules own h read none =
      all-calm own rules (of-sockets domain kind (lacked (ForSockets domain kind) rules) own (lacked-made (ForSockets domain kind) rules own h))

  pub others-agree : (request : Request) (rules : List Rule) (own : Rule) → missing_rule request rules ≡ Some own → All HasReadPattern rules → agree rules ≡ true
      → in_the_way request rules ≡ [] → agree (rules ++ own ∷ []) ≡ true
  others-agree request rules own h read agrees none =
      ap is_none (first-more [] rules own (none-there (first_conflict [] rules) agrees) (none-conflicts request rules own h read none))
