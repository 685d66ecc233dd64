use Rattle.aatry_policy.proofs.UnreadLemmas.{refused-unspliced}
use Rattle.aatry_policy.proofs.laws.what_cannot_be_read_gives_no_profile.Goals as goal

pub returns : goal.returns
returns g c language base files unread name one other way fault taken found reaches is =
    refused-unspliced language files name (c.what_cannot_be_read_is_never_entered.ensures base files unread name one other way fault taken found reaches is)
