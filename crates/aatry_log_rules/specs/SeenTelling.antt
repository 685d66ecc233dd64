-- What the printing of rules needs in the code, as the definitions see it.
use Rattle.std.specs.Prelude.{map}
use Rattle.aa_decide_ready.specs.Slots.{filled}
use Rattle.aatry_abstractions.specs.SeenLetting.{seen_letting}
use Rattle.aatry_log_rules.specs.SeenWanted.{seen_wanted}
use Rattle.aatry_log_rules.specs.Offers.{Offer}
use Rattle.aatry_log_rules.specs.Told.{Telling}
use Rattle.aatry_log_rules.specs.declared.offers.Offer.{Offer as CodeOffer}
use Rattle.aatry_log_rules.specs.declared.telling_by.RuleTelling.{RuleTelling}

abbrev pub seen_telling : RuleTelling → Telling
seen_telling telling = record {
  form = telling.teller.form;
  globs = telling.globs;
  base = telling.base.now;
  origins = telling.origins.now;
  entries = filled telling.slots.now;
  wanted = map seen_wanted telling.wanted.now;
  lettings = map seen_letting telling.abstractions.now;
}

-- an abstraction that allows some of the asker's wanted requests
abbrev pub seen_offer : CodeOffer → Offer
seen_offer offer = record { name = offer.name.now; number = offer.number }
