-- Requests, about which rules decide, and which questions ask.
use Rattle.std.specs.Prelude.{ℕ, Bool, List}

-- What is asked for: a file, by the letters that are needed, whether the task's user owns it, and its path; a capability, by its number; or
-- sockets, by the numbers of their domain and their type.
pub data Request : Type 0 where
  ForFile : (needs : ℕ) (owned : Bool) (path : List ℕ) → Request
  ForCapability : (number : ℕ) → Request
  ForSockets : (domain kind : ℕ) → Request
