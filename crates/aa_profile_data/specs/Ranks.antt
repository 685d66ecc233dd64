-- Ranks of exec rules (docs/policy.md, "The start of a program").
use Rattle.std.specs.Prelude.{Bool, true, false}
use Rattle.aa_profile_data.specs.declared.profile.Rank.{Rank}
use Rattle.aa_profile_data.specs.declared.profile.Rank.TheVariants.{Last, Loose, Plain}

-- two ranks are the same
abbrev pub same_rank : Rank → Rank → Bool
same_rank Last Last = true
same_rank Loose Loose = true
same_rank Plain Plain = true
same_rank _ _ = false
