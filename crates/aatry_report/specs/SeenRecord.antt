-- What a record holds.
use Rattle.aatry_report.specs.declared.record.Record.{Record}
use Rattle.serde_json.specs.Data.{Members}
use Rattle.serde_json.specs.View.{members_view}

-- its members, by their names
abbrev pub seen_record : Record → Members
seen_record r = members_view r.members.entries
