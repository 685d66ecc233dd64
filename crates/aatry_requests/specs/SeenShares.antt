-- Shares of the questions of a log, as the definitions see them.
use Rattle.aatry_requests.specs.Counts.{Share}
use Rattle.aatry_requests.specs.declared.counts.Share.{Share as CodeShare}

-- a share of the code
abbrev pub seen_share : CodeShare → Share
seen_share share = record { number = share.number; words = share.words.now; name = share.name.now }
