-- Parts of a file, and what their patterns' tokens are refused for.
use Rattle.std.proofs.Common.{◌≡◌, ◌-◌, ◌≤◌, Bool, true, false, List, [], ◌∷◌, ◌++◌, append_assoc, arith, drop, get_or, length, map, take, Option, None, Some, refl, sym, ap, ◌∙◌}
use Rattle.std.proofs.lemmas.List.{take_rest}
use Rattle.std.specs.Prelude.{is_none}
use Rattle.aa_text_tokens.specs.Splicing.{Placed}
use Rattle.aa_text_variables.specs.Expansions.{expansion_refusal}
use Rattle.aa_text_variables.specs.Variables.{Variable}
use Rattle.aa_profile_parsing.specs.Tokens.{text_of}
use Rattle.aa_profile_rules.specs.SeenRules.{seen_rule}
use Rattle.aa_profile_rules.specs.declared.rules.Rule.{Rule}
use Rattle.aa_profile_grammar.specs.PatternTokens.{of_rule, of_rules}
use Rattle.aa_profile_grammar.specs.Patterns.{first_bad, have_expansions, refusal_of_token}
use Rattle.aa_profile_parsing.specs.declared.profile_error.ProfileError.{ProfileError}

-- where some tokens are fine, those behind them decide
pub first_bad_behind : (variables : List Variable) (front rest : List Placed) → first_bad variables front ≡ None → first_bad variables (front ++ rest) ≡ first_bad variables rest
first_bad_behind variables [] rest fine = refl
first_bad_behind variables (token ∷ front) rest fine = by (refusal_of_token variables token) refl (first_bad_behind variables front rest)
  where
    by : (first : Option ProfileError) → refusal_of_token variables token ≡ first → (first_bad variables front ≡ None → first_bad variables (front ++ rest) ≡ first_bad variables rest)
        → first_bad variables (token ∷ front ++ rest) ≡ first_bad variables rest
    by (Some error) e more = let wrong : Some error ≡ None = rw (first_bad, e) at fine in absurd (cc)
    by None e more = let others : first_bad variables front ≡ None = rw (first_bad, e) at fine in rw (first_bad, e) (more others)

-- a refusal of some tokens comes before those behind them
pub first_bad_front : (variables : List Variable) (front rest : List Placed) (error : ProfileError) → first_bad variables front ≡ Some error → first_bad variables (front ++ rest) ≡ Some error
first_bad_front variables [] rest error bad = absurd (cc)
first_bad_front variables (token ∷ front) rest error bad = by (refusal_of_token variables token) refl (first_bad_front variables front rest error)
  where
    by : (first : Option ProfileError) → refusal_of_token variables token ≡ first → (first_bad variables front ≡ Some error → first_bad variables (front ++ rest) ≡ Some error)
        → first_bad variables (token ∷ front ++ rest) ≡ Some error
    by (Some other) e more = let same : Some other ≡ Some error = rw (first_bad, e) at bad in rw (first_bad, e) same
    by None e more = let others : first_bad variables front ≡ Some error = rw (first_bad, e) at bad in rw (first_bad, e) (more others)

-- tokens have expansions where some of them and the others have
pub expand_front : (variables : List Variable) (front rest : List Placed) → have_expansions variables (front ++ rest) ≡ true → have_expansions variables front ≡ true
expand_front variables [] rest all = refl
expand_front variables (token ∷ front) rest all = by (is_none (expansion_refusal variables (text_of token))) refl (expand_front variables front rest)
  where
    by : (b : Bool) → is_none (expansion_refusal variables (text_of token)) ≡ b → (have_expansions variables (front ++ rest) ≡ true → have_expansions variables front ≡ true)
        → have_expansions variables (token ∷ front) ≡ true
    by true e more = let others : have_expansions variables (front ++ rest) ≡ true = rw e at all in rw e (more others)
    by false e more = let wrong : false ≡ true = rw e at all in absurd (cc)

pub expand_behind : (variables : List Variable) (front rest : List Placed) → have_expansions variables (front ++ rest) ≡ true → have_expansions variables rest ≡ true
expand_behind variables [] rest all = all
expand_behind variables (token ∷ front) rest all = by (is_none (expansion_refusal variables (text_of token))) refl (expand_behind variables front rest)
  where
    by : (b : Bool) → is_none (expansion_refusal variables (text_of token)) ≡ b → (have_expansions variables (front ++ rest) ≡ true → have_expansions variables rest ≡ true)
        → have_expansions variables rest ≡ true
    by true e more = let others : have_expansions variables (front ++ rest) ≡ true = rw e at all in more others
    by false e more = let wrong : false ≡ true = rw e at all in absurd (cc)

-- a list from its first item and the others
pub parts_of : {X : Type 0} (xs : List X) (x : X) → 1 ≤ length xs → x ≡ get_or xs 0 x → xs ≡ x ∷ take (length xs - 1) (drop 1 xs)
parts_of [] x some is = absurd (omega arith)
parts_of (y ∷ ys) x some is = let same : x ≡ y = is in ap (λ item. item ∷ ys) (sym same) ∙ ap (λ rest. x ∷ rest) (sym (take_rest (y ∷ ys) 1))

-- some more items
pub more_items : {X : Type 0} (front items rest all : List X) → front ++ (items ++ rest) ≡ all → (front ++ items) ++ rest ≡ all
more_items front items rest all h = append_assoc front items rest ∙ h

-- the refusal of the first of some rules
pub first_rule_bad : (variables : List Variable) (rules : List Rule) (d : Rule) (error : ProfileError) → 1 ≤ length rules
    → first_bad variables (of_rule (seen_rule (get_or rules 0 d))) ≡ Some error → first_bad variables (of_rules (map seen_rule rules)) ≡ Some error
first_rule_bad variables [] d error some bad = absurd (omega arith)
first_rule_bad variables (rule ∷ rules) d error some bad = first_bad_front variables (of_rule (seen_rule rule)) (of_rules (map seen_rule rules)) error bad
