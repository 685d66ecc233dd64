-- What contracts see of the code's heads.
use Rattle.std.specs.Prelude.{List, Option, map, option_map}
use Rattle.aatry_uncertain.specs.Heads.{Head, Place}
use Rattle.aatry_uncertain.specs.LeftOutHeads.{LeftOutHead}
use Rattle.aatry_uncertain.specs.declared.heads.Head.{Head as CodeHead}
use Rattle.aatry_uncertain.specs.declared.heads.Place.{Place as CodePlace}
use Rattle.aatry_uncertain.specs.declared.left_out.LeftOutHead.{LeftOutHead as CodeLeftOut}

abbrev pub seen_head : CodeHead → Head
seen_head head = record { name = head.name.now; attachment = option_map (λ text. text.now) head.attachment }

abbrev pub seen_heads : List CodeHead → List Head
seen_heads heads = map seen_head heads

abbrev pub seen_place : CodePlace → Place
seen_place place = record { depth = place.depth; begun = place.begun }

abbrev pub seen_left_out : CodeLeftOut → LeftOutHead
seen_left_out left_out = record { file = left_out.file.now; head = seen_head left_out.head }

abbrev pub all_left_out : List CodeLeftOut → List LeftOutHead
all_left_out heads = map seen_left_out heads
