-- Places as the code holds them.
use Rattle.std.specs.Option.{option_copied, option_map}
use Rattle.aa_explain_start_changes.specs.Places.{Lead, LetThrough, Named, NamedBase, NoProfile, OnNamed, OnNone, Place, StackOf}
use Rattle.aa_explain_start_changes.specs.declared.places.Base.{Base}
use Rattle.aa_explain_start_changes.specs.declared.places.Base.TheVariants as base
use Rattle.aa_explain_start_changes.specs.declared.places.Name.{Name}
use Rattle.aa_explain_start_changes.specs.declared.places.Place.{Place as CodePlace}
use Rattle.aa_explain_start_changes.specs.declared.places.Place.TheVariants as place
use Rattle.aa_explain_start_changes.specs.declared.same.Lead.{Lead as CodeLead}
use Rattle.aa_profile_data.specs.FullNames.{FullName}
use Rattle.aa_profile_data.specs.Stacks.{parts_of}

abbrev pub seen_name : Name → FullName
seen_name name = record { profile = name.profile.now; child = option_copied name.child }

abbrev pub seen_base_name : Base → NamedBase
seen_base_name (base.Named name) = OnNamed (seen_name name)
seen_base_name base.Unconfined = OnNone

abbrev pub seen_place : CodePlace → Place
seen_place (place.Named name) = Named (seen_name name)
seen_place place.Unconfined = NoProfile
seen_place (place.Stack base members) = StackOf (option_map seen_base_name base) (parts_of members.now)
seen_place place.Null = LetThrough

abbrev pub seen_lead : CodeLead → Lead
seen_lead lead = record { place = seen_place lead.place; scrub = lead.scrub }
