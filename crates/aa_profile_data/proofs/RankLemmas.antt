-- Ranks are the same exactly where they are equal.
use Rattle.std.proofs.Common.{◌≡◌, true, refl}
use Rattle.aa_profile_data.specs.Ranks.{same_rank}
use Rattle.aa_profile_data.specs.declared.profile.Rank.{Rank}
use Rattle.aa_profile_data.specs.declared.profile.Rank.TheVariants.{Last, Loose, Plain}

pub rank-self : (rank : Rank) → same_rank rank rank ≡ true
rank-self Last = refl
rank-self Loose = refl
rank-self Plain = refl

pub same-ranks : (one other : Rank) → same_rank one other ≡ true → one ≡ other
same-ranks Last Last same = refl
same-ranks Loose Loose same = refl
same-ranks Plain Plain same = refl
same-ranks Last Loose same = absurd (cc)
same-ranks Last Plain same = absurd (cc)
same-ranks Loose Last same = absurd (cc)
same-ranks Loose Plain same = absurd (cc)
same-ranks Plain Last same = absurd (cc)
same-ranks Plain Loose same = absurd (cc)
