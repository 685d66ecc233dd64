-- What rules are wanted for: the requests that lack something, those of one asker about one path together.
use Rattle.std.specs.Prelude.{ℕ, ◌+◌, ◌-◌, ◌^◌, min, false, if◌then◌else◌, List, [], ◌∷◌, Bool}
use Rattle.std.specs.Cmp.Lexicographic.{slice_cmp}
use Rattle.std.specs.List.Sorted.{IsPermutation, IsSortedBy}
use Rattle.std.specs.Ordering.{is_lt, nat_cmp}
use Rattle.aa_explain_rules.specs.Joined.{joined}
use Rattle.aa_profile_data.specs.Request.{ForCapability, ForFile, ForSockets, Request}
use Rattle.aa_set_commands.specs.Question.{OfAccess, Question}
use Rattle.aatry_requests.specs.Texts.{is_same}

-- a wanted request: the asker, the request, and how often it occurred
pub record Wanted : Type 0 where
  pub who : List ℕ
  pub request : Request
  pub times : ℕ

-- what is asked about, and by whom: a path with no letter, whoever owns it
abbrev pub about : List ℕ → Request → Question
about who (ForFile needs owned path) = OfAccess who (ForFile 0 false path)
about who (ForCapability number) = OfAccess who (ForCapability number)
about who (ForSockets domain kind) = OfAccess who (ForSockets domain kind)

abbrev pub subject : Wanted → Question
subject wanted = about wanted.who wanted.request

-- two wanted requests are about the same: they have the same text
abbrev pub are_of_one : Wanted → Wanted → Bool
are_of_one one other = is_same (subject one) (subject other)

-- two wanted requests about the same, joined
abbrev pub both : Wanted → Wanted → Wanted
both asked wanted = record {
  who = asked.who;
  request = joined asked.request wanted.request;
  times = min (wanted.times + asked.times) (2 ^ 64 - 1);
}

-- One more wanted request: joined with the one about the same, or else after all.
abbrev pub wanted_with : Wanted → List Wanted → List Wanted
wanted_with asked [] = asked ∷ []
wanted_with asked (wanted ∷ more) = if are_of_one asked wanted then both asked wanted ∷ more else wanted ∷ wanted_with asked more

-- one comes before another: the name of its asker does, in the order of bytes
abbrev pub comes_before : Wanted → Wanted → Bool
comes_before one other = is_lt (slice_cmp nat_cmp one.who other.who)

-- the same wanted requests, in the order of the askers
pub record IsByWho (wanted told : List Wanted) : Type 0 where
  pub same : IsPermutation wanted told
  pub rises : IsSortedBy comes_before told
