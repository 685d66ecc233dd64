-- Names of profiles, children and hats. A full name, `parent//child`, is cut at its first `//`, so no name holds two slashes in a row or
-- ends in one (docs/policy.md, "Names").
use Rattle.std.specs.Prelude.{ℕ, Bool, true, not, ◌==◌, ◌&&◌, ◌||◌, nat_le, List, [], ◌∷◌, codes}
use Rattle.std.specs.List.{list_all}
use Rattle.std.specs.Str.{bytes_eq}
use Rattle.aa_bytes.specs.Bytes.{ampersand, colon, quote, slash, space}
use Rattle.aa_bytes.specs.Texts.{begins}

-- what a name consists of: bytes from the space on, except `"`
abbrev pub is_name_byte : ℕ → Bool
is_name_byte b = nat_le space b && not (b == quote)

-- each slash is followed by a byte that is no slash
abbrev pub slashes_are_within : List ℕ → Bool
slashes_are_within [] = true
slashes_are_within (b ∷ bs) = (not (b == slash) || begins (λ c. not (c == slash)) bs) && slashes_are_within bs

-- A name. It isn't empty, and begins neither with `:`, as namespaces do, nor with `&`, as the later members of stacks do.
abbrev pub is_name : List ℕ → Bool
is_name text = begins (λ b. not (b == colon || b == ampersand)) text && list_all is_name_byte text && slashes_are_within text

-- the name of a profile that isn't within another: not the word for no profile
abbrev pub is_top_name : List ℕ → Bool
is_top_name text = is_name text && not (bytes_eq text (codes "unconfined"))
