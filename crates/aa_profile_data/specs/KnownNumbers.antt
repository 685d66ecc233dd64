-- Numbers that are in the tables.
use Rattle.std.specs.Prelude.{ℕ, ◌^◌, Bool, true, nat_lt, Option, None, Some}

-- a set, in which bit n is that of number n, has only numbers of capabilities
abbrev pub are_capabilities : ℕ → Bool
are_capabilities set = nat_lt set (2 ^ 41)

-- a number that may be missing is a domain's
abbrev pub is_domain : Option ℕ → Bool
is_domain None = true
is_domain (Some number) = nat_lt number 44

-- a number that may be missing is a kind's
abbrev pub is_kind : Option ℕ → Bool
is_kind None = true
is_kind (Some number) = nat_lt number 9
