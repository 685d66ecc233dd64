-- The first conflict of rules, of those behind others, and of what a file writes.
use Rattle.std.proofs.Common.{◌≡◌, ℕ, suc, ◌+◌, ◌-◌, ◌<◌, ◌≤◌, Bool, true, false, List, [], ◌∷◌, ◌++◌, append_assoc, append-nil, arith, drop, get_or, length, map, take, Option, None, Some, refl, sym, ap, subst, ◌∙◌}
use Rattle.std.specs.Prelude.{is_none, nat_le}
use Rattle.std.specs.List.{list_all, list_any}
use Rattle.std.specs.Option.{option_map}
use Rattle.std.proofs.lemmas.Bool.{and_parts}
use Rattle.std.proofs.lemmas.Bool.Decides.{nat_tests}
use Rattle.std.proofs.lemmas.List.{length-map}
use Rattle.std.proofs.lemmas.List.Folds.{list_all-append}
use Rattle.aa_text_files.specs.declared.text_error.Place.{Place}
use Rattle.aa_text_tokens.specs.Splicing.{Placed}
use Rattle.aa_text_variables.specs.Expansions.{expansion_refusal, expansions}
use Rattle.aa_text_variables.specs.Variables.{Variable}
use Rattle.aa_profile_data.specs.Conflicts.{agree, child_agrees, conflict, first_conflict, profile_agrees}
use Rattle.aa_profile_data.specs.declared.profile.Rule.{Rule}
use Rattle.aa_profile_grammar.specs.Blocks.{OfChild, OfRule, Child as WrittenChild, Member, Profile as WrittenProfile}
use Rattle.aa_profile_parsing.specs.declared.language.Language.{Language}
use Rattle.aa_profile_parsing.specs.Tokens.{place_of, text_of}
use Rattle.aa_profile_rules.specs.Rules.{All, Kept, OnCapabilities, OnFile, OnNetwork, Rule as WrittenRule}
use Rattle.aa_profile_rules.specs.SeenRules.{seen_rule}
use Rattle.aa_profile_rules.specs.declared.rules.Rule.{Rule as CodeRule}
use Rattle.aa_profile.proofs.ProfileLemmas.{parts_of}
use Rattle.aa_profile_grammar.specs.PatternTokens.{of_rule, of_rules}
use Rattle.aa_profile.specs.Conflicts.{conflict_in_members, conflict_in_profiles, conflict_in_rule, conflict_in_rules, pattern_of}
use Rattle.aa_profile_grammar.specs.Limits.{most_rules}
use Rattle.aa_profile_grammar.specs.Patterns.{are_counted, have_expansions, is_counted, over_limit, too_many}
use Rattle.aa_profile_grammar.specs.Places.{rule_count}
use Rattle.aa_profile.specs.Profiles.{cap_rule, children_of, net_rule, other_rule, profile_of, rules_of, rules_of_members, rules_of_rule}
use Rattle.aa_profile_parsing.specs.ProfileError.{placed}
use Rattle.aa_profile_parsing.specs.declared.profile_error.ProfileRefusal.TheVariants.{TooManyRules}
use Rattle.aa_profile.specs.code.ConflictProgress.{Passes, ReachesMembers, ReachesRules}

-- a written rule makes as many rules as are counted
pub rules-counted : (language : Language) (variables : List Variable) (rule : WrittenRule) → length (rules_of_rule language variables rule) ≡ rule_count variables rule
rules-counted language variables (OnFile qualifiers pattern access target) = simp length-map
rules-counted language variables (OnCapabilities qualifiers word capabilities) = refl
rules-counted language variables (OnNetwork qualifiers word sockets) = refl
rules-counted language variables (Kept qualifiers tokens) = refl
rules-counted language variables (All qualifiers word) = refl

-- the first item stands first
first-item : {X : Type 0} (xs : List X) (d : X) → 1 ≤ length xs → get_or xs 0 d ≡ get_or xs 0 (get_or xs 0 d)
first-item [] d some = refl
first-item (x ∷ xs) d some = refl

-- a conflict of the first rules comes before those behind them
pub first-front : (before rules rest : List Rule) (k : ℕ) → first_conflict before rules ≡ Some k → first_conflict before (rules ++ rest) ≡ Some k
first-front before [] rest k h = absurd (cc)
first-front before (rule ∷ rules) rest k h = by (list_any (conflict rule) before) refl (first-front (before ++ rule ∷ []) rules rest)
  where
    More : Type 0
    More = (j : ℕ) → first_conflict (before ++ rule ∷ []) rules ≡ Some j → first_conflict (before ++ rule ∷ []) (rules ++ rest) ≡ Some j

    later : (found : Option ℕ) → first_conflict (before ++ rule ∷ []) rules ≡ found → list_any (conflict rule) before ≡ false → More → first_conflict before (rule ∷ rules ++ rest) ≡ Some k
    later None f e more = let wrong : None ≡ Some k = rw (first_conflict, e, f) at h in absurd (cc)
    later (Some j) f e more = let same : Some (suc j) ≡ Some k = rw (first_conflict, e, f) at h in rw (first_conflict, e, more j f) same

    by : (b : Bool) → list_any (conflict rule) before ≡ b → More → first_conflict before (rule ∷ rules ++ rest) ≡ Some k
    by true e more = let same : Some 0 ≡ Some k = rw (first_conflict, e) at h in rw (first_conflict, e) same
    by false e more = later (first_conflict (before ++ rule ∷ []) rules) refl e more

-- it stands among them
pub first-within : (before rules : List Rule) (k : ℕ) → first_conflict before rules ≡ Some k → k < length rules
first-within before [] k h = absurd (cc)
first-within before (rule ∷ rules) k h = by (list_any (conflict rule) before) refl (first-within (before ++ rule ∷ []) rules)
  where
    More : Type 0
    More = (j : ℕ) → first_conflict (before ++ rule ∷ []) rules ≡ Some j → j < length rules

    later : (found : Option ℕ) → first_conflict (before ++ rule ∷ []) rules ≡ found → list_any (conflict rule) before ≡ false → More → k < length (rule ∷ rules)
    later None f e more = let wrong : None ≡ Some k = rw (first_conflict, e, f) at h in absurd (cc)
    later (Some j) f e more = let same : Some (suc j) ≡ Some k = rw (first_conflict, e, f) at h in let is : suc j ≡ k = cc in let l = more j f in omega arith

    by : (b : Bool) → list_any (conflict rule) before ≡ b → More → k < length (rule ∷ rules)
    by true e more = let same : Some 0 ≡ Some k = rw (first_conflict, e) at h in let is : 0 ≡ k = cc in omega arith
    by false e more = later (first_conflict (before ++ rule ∷ []) rules) refl e more

-- a place so many rules on
abbrev pub further : ℕ → Option ℕ → Option ℕ
further many found = option_map (λ k. many + k) found

further-none : (found : Option ℕ) → further 0 found ≡ found
further-none None = refl
further-none (Some k) = let is : 0 + k ≡ k = omega arith in ap Some is

further-one : (many : ℕ) (found : Option ℕ) → option_map suc (further many found) ≡ further (suc many) found
further-one many None = refl
further-one many (Some k) = let is : suc (many + k) ≡ suc many + k = omega arith in ap Some is

-- where the first rules have none, it is that of those behind them
pub first-behind : (before rules rest : List Rule) → first_conflict before rules ≡ None → first_conflict before (rules ++ rest) ≡ further (length rules) (first_conflict (before ++ rules) rest)
first-behind before [] rest h = ap (λ front. first_conflict front rest) (sym (append-nil before)) ∙ sym (further-none (first_conflict (before ++ []) rest))
first-behind before (rule ∷ rules) rest h = by (list_any (conflict rule) before) refl (first-behind (before ++ rule ∷ []) rules rest)
  where
    More : Type 0
    More = first_conflict (before ++ rule ∷ []) rules ≡ None → first_conflict (before ++ rule ∷ []) (rules ++ rest) ≡ further (length rules) (first_conflict ((before ++ rule ∷ []) ++ rules) rest)

    later : (found : Option ℕ) → first_conflict (before ++ rule ∷ []) rules ≡ found → list_any (conflict rule) before ≡ false → More
        → first_conflict before (rule ∷ rules ++ rest) ≡ further (length (rule ∷ rules)) (first_conflict (before ++ rule ∷ rules) rest)
    later None f e more =
        let all : first_conflict (before ++ rule ∷ []) (rules ++ rest) ≡ further (length rules) (first_conflict (before ++ rule ∷ rules) rest) =
        more f ∙ ap (λ front. further (length rules) (first_conflict front rest)) (append_assoc before (rule ∷ []) rules)
        in
        rw (first_conflict, e) (ap (option_map suc) all ∙ further-one (length rules) (first_conflict (before ++ rule ∷ rules) rest))
    later (Some j) f e more = let wrong : Some (suc j) ≡ None = rw (first_conflict, e, f) at h in absurd (cc)

    by : (b : Bool) → list_any (conflict rule) before ≡ b → More
        → first_conflict before (rule ∷ rules ++ rest) ≡ further (length (rule ∷ rules)) (first_conflict (before ++ rule ∷ rules) rest)
    by true e more = let wrong : ◌≡◌ {A = Option ℕ} (Some 0) None = rw (first_conflict, e) at h in absurd (cc)
    by false e more = later (first_conflict (before ++ rule ∷ []) rules) refl e more

-- a rule that leads nowhere conflicts with none
none-with : (rule : Rule) → ((other : Rule) → conflict rule other ≡ false) → (before : List Rule) → list_any (conflict rule) before ≡ false
none-with rule off [] = refl
none-with rule off (other ∷ before) = rw (off other, none-with rule off before) refl

one-free : (before : List Rule) (rule : Rule) → ((other : Rule) → conflict rule other ≡ false) → first_conflict before (rule ∷ []) ≡ None
one-free before rule off = rw (first_conflict, none-with rule off before) refl

-- what a written rule without a pattern makes conflicts with none
pub no-pattern : (language : Language) (variables : List Variable) (before : List Rule) (rule : WrittenRule) → pattern_of rule ≡ None → first_conflict before (rules_of_rule language variables rule) ≡ None
no-pattern language variables before (OnFile qualifiers pattern access target) h = absurd (cc)
no-pattern language variables before (OnCapabilities qualifiers word capabilities) h = one-free before (cap_rule qualifiers capabilities) (λ other. refl)
no-pattern language variables before (OnNetwork qualifiers word sockets) h = one-free before (net_rule qualifiers sockets) (λ other. refl)
no-pattern language variables before (Kept qualifiers tokens) h = one-free before (other_rule qualifiers tokens) (λ other. refl)
no-pattern language variables before (All qualifiers word) h = absurd (cc)

-- where no pattern of a written rule is told, none of its rules conflicts
pub rule-free : (language : Language) (variables : List Variable) (before : List Rule) (rule : WrittenRule) → conflict_in_rule language variables before rule ≡ None → first_conflict before (rules_of_rule language variables rule) ≡ None
rule-free language variables before rule h = by (first_conflict before (rules_of_rule language variables rule)) refl
  where
    by : (found : Option ℕ) → first_conflict before (rules_of_rule language variables rule) ≡ found → first_conflict before (rules_of_rule language variables rule) ≡ None
    by None e = e
    by (Some k) e = no-pattern language variables before rule (rw (conflict_in_rule, e) at h)

pub rule-none : (language : Language) (variables : List Variable) (before : List Rule) (rule : WrittenRule) → first_conflict before (rules_of_rule language variables rule) ≡ None → conflict_in_rule language variables before rule ≡ None
rule-none language variables before rule h = rw (conflict_in_rule, h) refl

pub rule-some : (language : Language) (variables : List Variable) (before : List Rule) (rule : WrittenRule) (k : ℕ) → first_conflict before (rules_of_rule language variables rule) ≡ Some k
    → conflict_in_rule language variables before rule ≡ pattern_of rule
rule-some language variables before rule k h = rw (conflict_in_rule, h) refl

-- what is found of a written rule, and how many rules on the first conflict stands behind it
module _ (language : Language) (variables : List Variable) (rule : WrittenRule) where
  abbrev made : List Rule
  made = rules_of_rule language variables rule

  free-front : (before rest : List Rule) → None ≡ first_conflict before (made ++ rest) → first_conflict before made ≡ None
  free-front before rest h = by (first_conflict before made) refl
    where
      by : (found : Option ℕ) → first_conflict before made ≡ found → first_conflict before made ≡ None
      by None e = e
      by (Some k) e = let wrong : None ≡ Some k = h ∙ first-front before made rest k e in absurd (cc)

  none-further : (many : ℕ) (found : Option ℕ) → None ≡ further many found → found ≡ None
  none-further many None h = refl
  none-further many (Some k) h = absurd (cc)

  pub passes-none : Passes language variables rule None None None
  passes-none = record {
    told = λ before rest h. sym (ap (option_map place_of) (rule-none language variables before rule (free-front before rest h)));
    behind = λ before rest h none. sym (none-further (length made) (first_conflict (before ++ made) rest) (h ∙ first-behind before made rest (free-front before rest h)));
  }

  -- one that stands among the rules of the written one
  here : (on : ℕ) (before rest : List Rule) → Some on ≡ first_conflict before (made ++ rest) → on < length made → (k : ℕ) × (first_conflict before made ≡ Some k)
  here on before rest h l = by (first_conflict before made) refl
    where
      far : (found : Option ℕ) → Some on ≡ further (length made) found → ⊥
      far None e = absurd (cc)
      far (Some j) e = let is : on ≡ length made + j = cc in omega arith

      by : (found : Option ℕ) → first_conflict before made ≡ found → (k : ℕ) × (first_conflict before made ≡ Some k)
      by (Some k) e = (k, e)
      by None e = absurd (far (first_conflict (before ++ made) rest) (h ∙ first-behind before made rest e))

  pub passes-here : (on : ℕ) (new : Option ℕ) (found : Option Place) → on < length made → found ≡ option_map place_of (pattern_of rule) → Passes language variables rule (Some on) new found
  passes-here on new found l is = record { told = told; behind = behind }
    where
      told : (before rest : List Rule) → Some on ≡ first_conflict before (made ++ rest) → found ≡ option_map place_of (conflict_in_rule language variables before rule)
      told before rest h = let (k, e) = here on before rest h l in is ∙ sym (ap (option_map place_of) (rule-some language variables before rule k e))

      nothing : (pattern : Option Placed) → option_map place_of pattern ≡ None → pattern ≡ None
      nothing None e = refl
      nothing (Some pattern) e = absurd (cc)

      behind : (before rest : List Rule) → Some on ≡ first_conflict before (made ++ rest) → found ≡ None → new ≡ first_conflict (before ++ made) rest
      behind before rest h none =
          let (k, e) = here on before rest h l in
          let free = no-pattern language variables before rule (nothing (pattern_of rule) (sym is ∙ none)) in
          let wrong : Some k ≡ None = sym e ∙ free in
          absurd (cc)

  -- one that stands behind them
  beyond : (on : ℕ) (before rest : List Rule) → Some on ≡ first_conflict before (made ++ rest) → length made ≤ on → first_conflict before made ≡ None
  beyond on before rest h l = by (first_conflict before made) refl
    where
      by : (found : Option ℕ) → first_conflict before made ≡ found → first_conflict before made ≡ None
      by None e = e
      by (Some k) e =
          let w = first-within before made k e in
          let same : Some on ≡ Some k = h ∙ first-front before made rest k e in
          let is : on ≡ k = cc in
          absurd (omega arith)

  rest-of : (on : ℕ) (found : Option ℕ) → Some on ≡ further (length made) found → Some (on - length made) ≡ found
  rest-of on None h = absurd (cc)
  rest-of on (Some k) h = let is : on ≡ length made + k = cc in ap Some (omega arith)

  pub passes-behind : (on : ℕ) → length made ≤ on → Passes language variables rule (Some on) (Some (on - length made)) None
  passes-behind on l = record {
    told = λ before rest h. sym (ap (option_map place_of) (rule-none language variables before rule (beyond on before rest h l)));
    behind = λ before rest h none. rest-of on (first_conflict (before ++ made) rest) (h ∙ first-behind before made rest (beyond on before rest h l));
  }

-- no conflict is told of rules that are written, and their rules have none
pub rules-free : (language : Language) (variables : List Variable) (before : List Rule) (written : List WrittenRule) → conflict_in_rules language variables before written ≡ None
    → first_conflict before (rules_of language variables written) ≡ None
rules-free language variables before [] h = refl
rules-free language variables before (rule ∷ written) h = by (conflict_in_rule language variables before rule) refl (rules-free language variables (before ++ rules_of_rule language variables rule) written)
  where
    More : Type 0
    More = conflict_in_rules language variables (before ++ rules_of_rule language variables rule) written ≡ None → first_conflict (before ++ rules_of_rule language variables rule) (rules_of language variables written) ≡ None

    by : (found : Option Placed) → conflict_in_rule language variables before rule ≡ found → More → first_conflict before (rules_of language variables (rule ∷ written)) ≡ None
    by (Some pattern) e more = let wrong : Some pattern ≡ None = rw (conflict_in_rules, e) at h in absurd (cc)
    by None e more =
        let others : conflict_in_rules language variables (before ++ rules_of_rule language variables rule) written ≡ None = rw (conflict_in_rules, e) at h in
        first-behind before (rules_of_rule language variables rule) (rules_of language variables written) (rule-free language variables before rule e)
        ∙ ap (further (length (rules_of_rule language variables rule))) (more others)

-- the same of members: their rules have none, and those of each child and hat
pub members-free : (language : Language) (variables : List Variable) (before : List Rule) (members : List Member) → conflict_in_members language variables before members ≡ None
    → (first_conflict before (rules_of_members language variables members) ≡ None) × (list_all child_agrees (children_of language variables members) ≡ true)
members-free language variables before [] h = (refl, refl)
members-free language variables before (OfRule rule ∷ members) h = by (conflict_in_rule language variables before rule) refl (members-free language variables (before ++ rules_of_rule language variables rule) members)
  where
    More : Type 0
    More = conflict_in_members language variables (before ++ rules_of_rule language variables rule) members ≡ None
        → (first_conflict (before ++ rules_of_rule language variables rule) (rules_of_members language variables members) ≡ None) × (list_all child_agrees (children_of language variables members) ≡ true)

    by : (found : Option Placed) → conflict_in_rule language variables before rule ≡ found → More
        → (first_conflict before (rules_of_members language variables (OfRule rule ∷ members)) ≡ None) × (list_all child_agrees (children_of language variables (OfRule rule ∷ members)) ≡ true)
    by (Some pattern) e more = let wrong : Some pattern ≡ None = rw (conflict_in_members, e) at h in absurd (cc)
    by None e more =
        let others = more (rw (conflict_in_members, e) at h) in (
          first-behind before (rules_of_rule language variables rule) (rules_of_members language variables members) (rule-free language variables before rule e)
              ∙ ap (further (length (rules_of_rule language variables rule))) others.0,
          others.1,
        )
members-free language variables before (OfChild child ∷ members) h = by (conflict_in_rules language variables [] child.rules) refl (members-free language variables before members)
  where
    More : Type 0
    More = conflict_in_members language variables before members ≡ None
        → (first_conflict before (rules_of_members language variables members) ≡ None) × (list_all child_agrees (children_of language variables members) ≡ true)

    by : (found : Option Placed) → conflict_in_rules language variables [] child.rules ≡ found → More
        → (first_conflict before (rules_of_members language variables (OfChild child ∷ members)) ≡ None) × (list_all child_agrees (children_of language variables (OfChild child ∷ members)) ≡ true)
    by (Some pattern) e more = let wrong : Some pattern ≡ None = rw (conflict_in_members, e) at h in absurd (cc)
    by None e more =
        let others = more (rw (conflict_in_members, e) at h) in
        let own : agree (rules_of language variables child.rules) ≡ true = ap is_none (rules-free language variables [] child.rules e) in
        (others.0, rw (own, others.1) refl)

-- and of profiles: they agree
pub profiles-free : (language : Language) (variables : List Variable) (profiles : List WrittenProfile) → conflict_in_profiles language variables profiles ≡ None
    → list_all profile_agrees (map (profile_of language variables) profiles) ≡ true
profiles-free language variables [] h = refl
profiles-free language variables (profile ∷ profiles) h = by (conflict_in_members language variables [] profile.members) refl (profiles-free language variables profiles)
  where
    More : Type 0
    More = conflict_in_profiles language variables profiles ≡ None → list_all profile_agrees (map (profile_of language variables) profiles) ≡ true

    by : (found : Option Placed) → conflict_in_members language variables [] profile.members ≡ found → More → list_all profile_agrees (map (profile_of language variables) (profile ∷ profiles)) ≡ true
    by (Some pattern) e more = let wrong : Some pattern ≡ None = rw (conflict_in_profiles, e) at h in absurd (cc)
    by None e more =
        let others = more (rw (conflict_in_profiles, e) at h) in
        let own = members-free language variables [] profile.members e in
        rw (ap is_none own.0, own.1, others) refl

-- tokens have expansions that can be counted, where the first ones and the others have
pub counted-front : (variables : List Variable) (front rest : List Placed) → are_counted variables (front ++ rest) ≡ true → are_counted variables front ≡ true
counted-front variables front rest all = (and_parts (are_counted variables front) (are_counted variables rest) (sym (list_all-append (is_counted variables) front rest) ∙ all)).0

pub counted-behind : (variables : List Variable) (front rest : List Placed) → are_counted variables (front ++ rest) ≡ true → are_counted variables rest ≡ true
counted-behind variables front rest all = (and_parts (are_counted variables front) (are_counted variables rest) (sym (list_all-append (is_counted variables) front rest) ∙ all)).1

-- those of a file that doesn't make too many patterns
counted-from : (variables : List Variable) (patterns : ℕ) (tokens : List Placed) → have_expansions variables tokens ≡ true → too_many variables patterns tokens ≡ None → are_counted variables tokens ≡ true
counted-from variables patterns [] all few = refl
counted-from variables patterns (token ∷ tokens) all few = by (nat_le (patterns + length (expansions variables (text_of token))) most_rules) refl (counted-from variables (patterns + length (expansions variables (text_of token))) tokens)
  where
    More : Type 0
    More = have_expansions variables tokens ≡ true → too_many variables (patterns + length (expansions variables (text_of token))) tokens ≡ None → are_counted variables tokens ≡ true

    by : (b : Bool) → nat_le (patterns + length (expansions variables (text_of token))) most_rules ≡ b → More → are_counted variables (token ∷ tokens) ≡ true
    by false e more = let wrong : Some token ≡ None = rw (too_many, e) at few in absurd (cc)
    by true e more =
        let both = and_parts (is_none (expansion_refusal variables (text_of token))) (have_expansions variables tokens) all in
        let own : nat_le (length (expansions variables (text_of token))) most_rules ≡ true = grind (arith, nat_tests) in
        let others = more both.1 (rw (too_many, e) at few) in
        rw (both.0, own, others) refl

pub counted-few : (variables : List Variable) (tokens : List Placed) → have_expansions variables tokens ≡ true → over_limit variables tokens ≡ None → are_counted variables tokens ≡ true
counted-few variables tokens all few = by (too_many variables 0 tokens) refl
  where
    by : (found : Option Placed) → too_many variables 0 tokens ≡ found → are_counted variables tokens ≡ true
    by None e = counted-from variables 0 tokens all e
    by (Some token) e = let wrong : Some (placed TooManyRules (place_of token)) ≡ None = rw (over_limit, e) at few in absurd (cc)

-- those of the rules that are left behind the first
pub counted-next : (variables : List Variable) (rest : List CodeRule) → 1 ≤ length rest → are_counted variables (of_rules (map seen_rule rest)) ≡ true
    → are_counted variables (of_rules (map seen_rule (take (length rest - 1) (drop 1 rest)))) ≡ true
counted-next variables [] some all = absurd (omega arith)
counted-next variables (rule ∷ rest) some all =
    counted-behind variables (of_rule (seen_rule rule)) (of_rules (map seen_rule (take (length (rule ∷ rest) - 1) (drop 1 (rule ∷ rest)))))
    (ap (λ rules. are_counted variables (of_rules (map seen_rule rules))) (sym (parts_of (rule ∷ rest) rule some refl)) ∙ all)

-- on the way to the first conflict of written rules
module _ (language : Language) (variables : List Variable) (all : List WrittenRule) where
  pub rules-begin : (on : Option ℕ) → on ≡ first_conflict [] (rules_of language variables all) → ReachesRules language variables all all on
  rules-begin on is = record { before = []; stands = is; decides = refl }

  pub rules-more : (rule : WrittenRule) (rest : List WrittenRule) (old new : Option ℕ) → ReachesRules language variables all (rule ∷ rest) old → Passes language variables rule old new None
      → ReachesRules language variables all rest new
  rules-more rule rest old new reached passed = record {
    before = reached.before ++ rules_of_rule language variables rule;
    stands = passed.behind reached.before (rules_of language variables rest) reached.stands refl;
    decides = decides;
  }
    where
      none : (found : Option Placed) → None ≡ option_map place_of found → found ≡ None
      none None e = refl
      none (Some pattern) e = absurd (cc)

      free : conflict_in_rule language variables reached.before rule ≡ None
      free = none (conflict_in_rule language variables reached.before rule) (passed.told reached.before (rules_of language variables rest) reached.stands)

      decides : conflict_in_rules language variables (reached.before ++ rules_of_rule language variables rule) rest ≡ conflict_in_rules language variables [] all
      decides = let on : conflict_in_rules language variables reached.before (rule ∷ rest) ≡ conflict_in_rules language variables [] all = reached.decides in rw (conflict_in_rules, free) at on

  -- the same by the first of those that are left, as the code has them
  pub rules-next : (rest : List CodeRule) (d : CodeRule) (old new : Option ℕ) → 1 ≤ length rest → ReachesRules language variables all (map seen_rule rest) old
      → Passes language variables (seen_rule (get_or rest 0 d)) old new None → ReachesRules language variables all (map seen_rule (take (length rest - 1) (drop 1 rest))) new
  rules-next rest d old new some reached passed =
      let parts = ap (map seen_rule) (parts_of rest (get_or rest 0 d) some (first-item rest d some)) in
      rules-more (seen_rule (get_or rest 0 d)) (map seen_rule (take (length rest - 1) (drop 1 rest))) old new
      (subst (λ rules. ReachesRules language variables all rules old) parts reached) passed

  pub rules-told : (rule : WrittenRule) (rest : List WrittenRule) (old new : Option ℕ) (place : Place) → ReachesRules language variables all (rule ∷ rest) old → Passes language variables rule old new (Some place)
      → Some place ≡ option_map place_of (conflict_in_rules language variables [] all)
  rules-told rule rest old new place reached passed =
      by (conflict_in_rule language variables reached.before rule) refl (passed.told reached.before (rules_of language variables rest) reached.stands)
    where
      by : (found : Option Placed) → conflict_in_rule language variables reached.before rule ≡ found → Some place ≡ option_map place_of found → Some place ≡ option_map place_of (conflict_in_rules language variables [] all)
      by None e same = absurd (cc)
      by (Some pattern) e same =
          let first : conflict_in_rules language variables reached.before (rule ∷ rest) ≡ Some pattern = rw (conflict_in_rules, e) refl in
          same ∙ ap (option_map place_of) (sym first ∙ reached.decides)

  pub rules-end : (on : Option ℕ) → ReachesRules language variables all [] on → None ≡ option_map place_of (conflict_in_rules language variables [] all)
  rules-end on reached = ap (option_map place_of) reached.decides

-- on the way to the first conflict of members
module _ (language : Language) (variables : List Variable) (all : List Member) where
  pub members-begin : (on : Option ℕ) → on ≡ first_conflict [] (rules_of_members language variables all) → ReachesMembers language variables all all on
  members-begin on is = record { before = []; stands = is; decides = refl }

  pub members-more : (rule : WrittenRule) (rest : List Member) (old new : Option ℕ) → ReachesMembers language variables all (OfRule rule ∷ rest) old → Passes language variables rule old new None
      → ReachesMembers language variables all rest new
  members-more rule rest old new reached passed = record {
    before = reached.before ++ rules_of_rule language variables rule;
    stands = passed.behind reached.before (rules_of_members language variables rest) reached.stands refl;
    decides = decides;
  }
    where
      none : (found : Option Placed) → None ≡ option_map place_of found → found ≡ None
      none None e = refl
      none (Some pattern) e = absurd (cc)

      free : conflict_in_rule language variables reached.before rule ≡ None
      free = none (conflict_in_rule language variables reached.before rule) (passed.told reached.before (rules_of_members language variables rest) reached.stands)

      decides : conflict_in_members language variables (reached.before ++ rules_of_rule language variables rule) rest ≡ conflict_in_members language variables [] all
      decides = let on : conflict_in_members language variables reached.before (OfRule rule ∷ rest) ≡ conflict_in_members language variables [] all = reached.decides in rw (conflict_in_members, free) at on

  pub members-told : (rule : WrittenRule) (rest : List Member) (old new : Option ℕ) (place : Place) → ReachesMembers language variables all (OfRule rule ∷ rest) old → Passes language variables rule old new (Some place)
      → Some place ≡ option_map place_of (conflict_in_members language variables [] all)
  members-told rule rest old new place reached passed =
      by (conflict_in_rule language variables reached.before rule) refl (passed.told reached.before (rules_of_members language variables rest) reached.stands)
    where
      by : (found : Option Placed) → conflict_in_rule language variables reached.before rule ≡ found → Some place ≡ option_map place_of found → Some place ≡ option_map place_of (conflict_in_members language variables [] all)
      by None e same = absurd (cc)
      by (Some pattern) e same =
          let first : conflict_in_members language variables reached.before (OfRule rule ∷ rest) ≡ Some pattern = rw (conflict_in_members, e) refl in
          same ∙ ap (option_map place_of) (sym first ∙ reached.decides)

  pub child-more : (child : WrittenChild) (rest : List Member) (on : Option ℕ) → ReachesMembers language variables all (OfChild child ∷ rest) on
      → None ≡ option_map place_of (conflict_in_rules language variables [] child.rules) → ReachesMembers language variables all rest on
  child-more child rest on reached none = record { before = reached.before; stands = reached.stands; decides = by (conflict_in_rules language variables [] child.rules) refl none }
    where
      by : (found : Option Placed) → conflict_in_rules language variables [] child.rules ≡ found → None ≡ option_map place_of found
          → conflict_in_members language variables reached.before rest ≡ conflict_in_members language variables [] all
      by (Some pattern) e same = absurd (cc)
      by None e same =
          let on : conflict_in_members language variables reached.before (OfChild child ∷ rest) ≡ conflict_in_members language variables [] all = reached.decides in rw (conflict_in_members, e) at on

  pub child-told : (child : WrittenChild) (rest : List Member) (on : Option ℕ) (place : Place) → ReachesMembers language variables all (OfChild child ∷ rest) on
      → Some place ≡ option_map place_of (conflict_in_rules language variables [] child.rules) → Some place ≡ option_map place_of (conflict_in_members language variables [] all)
  child-told child rest on place reached told = by (conflict_in_rules language variables [] child.rules) refl told
    where
      by : (found : Option Placed) → conflict_in_rules language variables [] child.rules ≡ found → Some place ≡ option_map place_of found
          → Some place ≡ option_map place_of (conflict_in_members language variables [] all)
      by None e same = absurd (cc)
      by (Some pattern) e same =
          let first : conflict_in_members language variables reached.before (OfChild child ∷ rest) ≡ Some pattern = rw (conflict_in_members, e) refl in
          same ∙ ap (option_map place_of) (sym first ∙ reached.decides)

  pub members-end : (on : Option ℕ) → ReachesMembers language variables all [] on → None ≡ option_map place_of (conflict_in_members language variables [] all)
  members-end on reached = ap (option_map place_of) reached.decides

-- on the way over profiles
pub profiles-more : (language : Language) (variables : List Variable) (profile : WrittenProfile) (rest : List WrittenProfile) → None ≡ option_map place_of (conflict_in_members language variables [] profile.members)
    → conflict_in_profiles language variables (profile ∷ rest) ≡ conflict_in_profiles language variables rest
profiles-more language variables profile rest none = by (conflict_in_members language variables [] profile.members) refl none
  where
    by : (found : Option Placed) → conflict_in_members language variables [] profile.members ≡ found → None ≡ option_map place_of found → conflict_in_profiles language variables (profile ∷ rest) ≡ conflict_in_profiles language variables rest
    by None e same = rw (conflict_in_profiles, e) refl
    by (Some pattern) e same = absurd (cc)

pub profiles-told : (language : Language) (variables : List Variable) (profile : WrittenProfile) (rest : List WrittenProfile) (place : Place)
    → Some place ≡ option_map place_of (conflict_in_members language variables [] profile.members)
    → Some place ≡ option_map place_of (conflict_in_profiles language variables (profile ∷ rest))
profiles-told language variables profile rest place told = by (conflict_in_members language variables [] profile.members) refl told
  where
    by : (found : Option Placed) → conflict_in_members language variables [] profile.members ≡ found → Some place ≡ option_map place_of found
        → Some place ≡ option_map place_of (conflict_in_profiles language variables (profile ∷ rest))
    by None e same = absurd (cc)
    by (Some pattern) e same =
        let first : conflict_in_profiles language variables (profile ∷ rest) ≡ Some pattern = rw (conflict_in_profiles, e) refl in same ∙ ap (option_map place_of) (sym first)
