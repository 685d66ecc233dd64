-- How the second states of a row are stored as bytes: as differences, a byte each where they are small.
use Rattle.std.specs.Prelude.{◌≡◌, ℕ, ◌+◌, ◌-◌, ◌*◌, ◌/◌, ◌%◌, ◌^◌, ◌<◌, ◌==◌, ◌&&◌, Bool, nat_le, nat_lt, if◌then◌else◌, List, [], ◌∷◌, ◌++◌, All, slice_index_or}

-- whether a state is equal to the one before it or a little greater, so that a byte encodes the difference
abbrev pub is_near : ℕ → ℕ → Bool
is_near before state = nat_le before state && nat_lt (state - before) 255

-- the four bytes of a state, the lowest first
abbrev pub bytes_of : ℕ → List ℕ
bytes_of state = state % 256 ∷ state / 256 % 256 ∷ state / 65536 % 256 ∷ state / 16777216 ∷ []

-- the state of four bytes
abbrev pub state_of : ℕ → ℕ → ℕ → ℕ → ℕ
state_of a b c d = a + b * 256 + c * 65536 + d * 16777216

-- the state whose four bytes are at an index
abbrev pub state_at : List ℕ → ℕ → ℕ
state_at bytes at =
    state_of (slice_index_or bytes at 0) (slice_index_or bytes (at + 1) 0) (slice_index_or bytes (at + 2) 0) (slice_index_or bytes (at + 3) 0)

-- the bytes of a state after another: the difference, or 255 and its four bytes
abbrev pub bytes_behind : ℕ → ℕ → List ℕ
bytes_behind before state = if is_near before state then (state - before) ∷ [] else (255 ∷ bytes_of state)

-- the bytes of some states after another
abbrev pub encoded : ℕ → List ℕ → List ℕ
encoded before [] = []
encoded before (s ∷ ss) = bytes_behind before s ++ encoded s ss

-- the last one of some states, or the one before them
abbrev pub last_of : ℕ → List ℕ → ℕ
last_of before [] = before
last_of before (s ∷ ss) = last_of s ss

abbrev mutual
  -- the states whose bytes these are, after another
  pub decoded : ℕ → List ℕ → List ℕ
  decoded before [] = []
  decoded before (b ∷ bs) = if b == 255 then decoded_far bs else ((before + b) ∷ decoded (before + b) bs)

  -- the states whose bytes these are, where the first one is encoded by four bytes
  pub decoded_far : List ℕ → List ℕ
  decoded_far [] = []
  decoded_far (a ∷ []) = []
  decoded_far (a ∷ b ∷ []) = []
  decoded_far (a ∷ b ∷ c ∷ []) = []
  decoded_far (a ∷ b ∷ c ∷ d ∷ bs) = state_of a b c d ∷ decoded (state_of a b c d) bs

-- bytes are those of states
pub record IsEncoded (bytes : List ℕ) : Type 0 where
  pub same : bytes ≡ encoded 0 (decoded 0 bytes)
  pub within : All (λ s. s < 2 ^ 32) (decoded 0 bytes)
