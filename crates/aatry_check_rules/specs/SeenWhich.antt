-- Which written rules are tried, as the definitions see it.
use Rattle.aatry_check_rules.specs.Written.{Which}
use Rattle.aatry_check_rules.specs.declared.trying.Which.{Which as CodeWhich}

abbrev pub seen_which : CodeWhich → Which
seen_which which = record { included = which.included; files = which.files.now }
