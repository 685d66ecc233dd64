-- Names of tables, read back.
use Rattle.std.proofs.Common.{◌≡◌, ℕ, zero, suc, ◌<◌, ◌==◌, ◌&&◌, not, Bool, true, false, refl, sym, ap, subst, arith, inl, inr, Option, None, Some, true≢false}
use Rattle.std.proofs.lemmas.Bool.{and_parts, cases_lt, eqb-true}
use Rattle.aa_profile_data.specs.Capabilities.{capability_name, capability_number}
use Rattle.aa_profile_data.specs.Domains.{domain_name, domain_number}
use Rattle.aa_profile_data.specs.Kinds.{kind_name, kind_number}
use Rattle.aa_profile_data.specs.TableNames.{name_or_none}

-- a test holds of each number below another
abbrev pub holds_below : ℕ → (ℕ → Bool) → Bool
holds_below zero test = true
holds_below (suc n) test = test n && holds_below n test

pub below : (n : ℕ) (test : ℕ → Bool) → holds_below n test ≡ true → (k : ℕ) → k < n → test k ≡ true
below zero test h k within = absurd (omega (arith, within))
below (suc n) test h k within =
    let parts = and_parts (test n) (holds_below n test) h in
    elim (cases_lt k n) [
      | inl less ↦ below n test parts.1 k less
      | inr other ↦ let same : n ≡ k = omega (arith, within, other) in subst (λ m. test m ≡ true) same parts.0
    ]

-- a number that is read is this one
abbrev pub reads : Option ℕ → ℕ → Bool
reads None n = false
reads (Some m) n = m == n

pub reads-is : (found : Option ℕ) (n : ℕ) → reads found n ≡ true → found ≡ Some n
reads-is None n h = absurd (true≢false (sym h))
reads-is (Some m) n h = ap Some (eqb-true m n h)

pub capability-read : (number : ℕ) → number < 41 → capability_number (name_or_none (capability_name number)) ≡ Some number
capability-read number within =
    reads-is (capability_number (name_or_none (capability_name number))) number
    (below 41 (λ n. reads (capability_number (name_or_none (capability_name n))) n) refl number within)

pub domain-read : (number : ℕ) → number < 44 → domain_number (name_or_none (domain_name number)) ≡ Some number
domain-read number within =
    reads-is (domain_number (name_or_none (domain_name number))) number
    (below 44 (λ n. reads (domain_number (name_or_none (domain_name n))) n) refl number within)

pub kind-read : (number : ℕ) → number < 6 → kind_number (name_or_none (kind_name number)) ≡ Some number
kind-read number within =
    reads-is (kind_number (name_or_none (kind_name number))) number
    (below 6 (λ n. reads (kind_number (name_or_none (kind_name n))) n) refl number within)

pub none-space : (b : Bool) → not b ≡ true → b ≡ false
none-space true h = absurd (true≢false (sym h))
none-space false h = refl
