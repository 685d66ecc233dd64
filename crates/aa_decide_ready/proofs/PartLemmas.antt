-- Parts of children, and what has no rules.
use Rattle.std.proofs.Common.{◌≡◌, ℕ, zero, suc, ◌+◌, ◌<◌, ◌≤◌, Bor, List, [], ◌∷◌, ◌++◌, length, reverse, take, get_or, Option, None, Some, arith, ap, refl, sym, subst}
use Rattle.std.specs.Prelude.{IfSome, MatchOption, slice_get, slice_set}
use Rattle.aa_glob_syntax.specs.Patterns.{AreMatching}
use Rattle.aa_profile_data.specs.declared.profile.Child.{Child}
use Rattle.aa_profile_data.specs.declared.profile.Rule.{Rule}
use Rattle.aa_profile_data.specs.declared.profile.Rule.TheVariants.{Cap, File, Net, Other}
use Rattle.aa_glob.specs.Visits.{IsReadOf}
use Rattle.aa_glob_pattern.specs.Beginnings.{HasStates}
use Rattle.aa_glob_nfa.specs.Visits.{AreEach, AreVisits}
use Rattle.aa_decide_ready.specs.Visits.{AreAllVisitsOf, AreVisitsOf, child_attachments}
use Rattle.aa_profile_data.specs.FileRules.{file_patterns}
use Rattle.aa_profile_data.specs.Matching.{AreMatchingRules}
use Rattle.aa_decide_ready.specs.Ready.{child_rules}
use Rattle.aa_decide_ready.specs.code.Parts.{ArePartsOf, IsPartOf}
use Rattle.aa_decide_ready.specs.declared.part.Part.{Part}

-- a part more, behind the others
parts-longer : (parts : List Part) (children : List Child) (at : ℕ) (part : Part) (child : Child) → at < length children → child ≡ get_or children at child
    → ArePartsOf parts (take at children) → IsPartOf part child.rules child.attachments → ArePartsOf (parts ++ part ∷ []) (take (suc at) children)
parts-longer parts [] at part child within is are one = absurd (omega arith)
parts-longer [] (first ∷ children) zero part child within is are one = (rw is at one, tt)
parts-longer (other ∷ parts) (first ∷ children) zero part child within is are one = absurd are
parts-longer [] (first ∷ children) (suc at) part child within is are one = absurd are
parts-longer (other ∷ parts) (first ∷ children) (suc at) part child within is are one =
    (are.0, parts-longer parts children at part child (omega arith) is are.1 one)

pub parts-more : (parts : List Part) (children : List Child) (at : ℕ) (part : Part) (child : Child) → at < length children → child ≡ get_or children at child
    → ArePartsOf parts (take at children) → IsPartOf part child.rules child.attachments → ArePartsOf (parts ++ part ∷ []) (take (at + 1) children)
parts-more parts children at part child within is are one =
    let plain : at + 1 ≡ suc at = omega arith in rw plain (parts-longer parts children at part child within is are one)

-- a child has its part
pub part-there : (parts : List Part) (children : List Child) (at : ℕ) (part : Part) → ArePartsOf parts children → at < length parts → part ≡ get_or parts at part
    → IsPartOf part (child_rules (slice_get children at)) (child_attachments (slice_get children at))
part-there [] children at part are within is = absurd (omega arith)
part-there (one ∷ parts) [] at part are within is = absurd are
part-there (one ∷ parts) (first ∷ children) zero part are within is = rw is are.0
part-there (one ∷ parts) (first ∷ children) (suc at) part are within is = part-there parts children at part are.1 (omega arith) is

-- a part that is exchanged for one that was made of the same child
pub parts-set : (parts : List Part) (children : List Child) (at : ℕ) (part old : Part) (child : Child) → ArePartsOf parts children → at < length parts
    → old ≡ get_or parts at old → child ≡ get_or children at child
    → (IsPartOf old child.rules child.attachments → IsPartOf part child.rules child.attachments) → ArePartsOf (slice_set parts at part) children
parts-set [] children at part old child are within is of keeps = absurd (omega arith)
parts-set (one ∷ parts) [] at part old child are within is of keeps = absurd are
parts-set (one ∷ parts) (first ∷ children) zero part old child are within is of keeps = (
  subst (λ (c : Child). IsPartOf part c.rules c.attachments) of
      (keeps (subst (λ (p : Part). IsPartOf p child.rules child.attachments) (sym is)
      (subst (λ (c : Child). IsPartOf one c.rules c.attachments) (sym of) are.0))),
  are.1,
)
parts-set (one ∷ parts) (first ∷ children) (suc at) part old child are within is of keeps =
    (are.0, parts-set parts children at part old child are.1 (omega arith) is of keeps)

-- where no part is there is no child
pub part-missing : (parts : List Part) (children : List Child) (at : ℕ) → ArePartsOf parts children → length parts ≤ at → slice_get children at ≡ None
part-missing [] [] at are past = refl
part-missing [] (child ∷ children) at are past = absurd are
part-missing (one ∷ parts) [] at are past = absurd are
part-missing (one ∷ parts) (first ∷ children) zero are past = absurd (omega arith)
part-missing (one ∷ parts) (first ∷ children) (suc at) are past = part-missing parts children at are.1 (omega arith)

-- what is found at a place is the part of the child there, if it is there
pub part-found : (parts : List Part) (children : List Child) (at : ℕ) (Read : Bor Part → Type 0) (found : Option (Bor Part)) → ArePartsOf parts children
    → MatchOption found (length parts ≤ at) (λ part. (at < length parts) × Read part)
    → IfSome found (λ part. part.now ≡ get_or parts at part.now)
    → MatchOption found ((child_rules (slice_get children at) ≡ []) × (child_attachments (slice_get children at) ≡ [])) (λ part. IsPartOf part.now (child_rules (slice_get children at)) (child_attachments (slice_get children at)))
part-found parts children at Read None are m s = let gone = part-missing parts children at are m in (ap child_rules gone, ap child_attachments gone)
part-found parts children at Read (Some part) are m s = part-there parts children at part.now are m.0 s

-- there is no beginning where there is no text
pub no-states : HasStates [] 0
no-states = (
  [],
  record {
    members = λ trail. (λ there. let w = there.1 in absurd (omega arith), λ begins. let (text, among, part) = begins in let w = among.1 in absurd (omega arith));
    apart = λ q r within. absurd (omega arith);
  },
  refl,
)

-- no rule matches
pub none-match : (path : List ℕ) → AreMatchingRules [] path []
none-match path place = (λ there. let w = there.1 in absurd (omega arith), λ m. let (rule, at, passes) = m in absurd (cc))

-- no attachment matches
pub none-attached : (path : List ℕ) → AreMatching [] path []
none-attached path place = (λ there. let w = there.1 in absurd (omega arith), λ m. let (rule, at, passes) = m in absurd (cc))

-- where there is no pattern, nothing is read
none-read : (past : List ℕ) → AreEach (IsReadOf [] past) []
none-read past = record {
  members = λ trail. (λ there. let w = there.1 in absurd (omega arith), λ read. let (text, among, part) = read.0 in let w = among.1 in absurd (omega arith));
  apart = λ i j d before within. absurd (omega arith);
}

no-reads : (path : List ℕ) (places : ℕ) → AreVisits (IsReadOf []) path places 0
no-reads path zero = refl
no-reads path (suc place) = (0, no-reads path place, [], none-read (reverse (take place path)), refl)

-- and so nothing is visited
pub no-visits : (path : List ℕ) (steps : ℕ) → AreVisitsOf [] path steps steps
no-visits path steps = record {
  within = λ states has. (0, omega arith, omega arith, refl);
  first = (0, omega arith, (0, refl, refl));
}

pub no-visits-all : (path : List ℕ) (steps : ℕ) → AreAllVisitsOf [] path steps steps
no-visits-all path steps = (0, no-reads path (suc (length path)), refl)

-- the patterns of rules and of others behind them
pub file_patterns-append : (rules others : List Rule) → file_patterns (rules ++ others) ≡ file_patterns rules ++ file_patterns others
file_patterns-append [] others = refl
file_patterns-append (File rule ∷ rules) others = ap (λ ps. rule.pattern ∷ ps) (file_patterns-append rules others)
file_patterns-append (Cap rule ∷ rules) others = file_patterns-append rules others
file_patterns-append (Net rule ∷ rules) others = file_patterns-append rules others
file_patterns-append (Other rule ∷ rules) others = file_patterns-append rules others
