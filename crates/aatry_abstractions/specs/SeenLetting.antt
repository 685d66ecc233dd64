-- Abstractions of the code, as the definitions see them.
use Rattle.aatry_abstractions.specs.Letting.{Letting}
use Rattle.aatry_abstractions.specs.declared.letting.LettingAbstraction.{LettingAbstraction}

abbrev pub seen_letting : LettingAbstraction → Letting
seen_letting found = record { name = found.name.items; size = found.size; places = found.places.items }
