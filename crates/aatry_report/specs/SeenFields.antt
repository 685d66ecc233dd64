-- What a field is in the definitions' eyes.
use Rattle.std.specs.Prelude.{List, map}
use Rattle.aatry_report.specs.Fields as said
use Rattle.aatry_report.specs.Fields.{Said}
use Rattle.aatry_report.specs.declared.telling.Field.{Field}
use Rattle.aatry_report.specs.declared.telling.Field.TheVariants.{Bytes, Member, MemberNumber, MemberTexts, MemberWord, Number, Place, Plain, Quoted, Share, Text, Times, Word, Words}

abbrev pub seen_field : Field → Said
seen_field (Words words) = said.Words words.now
seen_field (Bytes bytes) = said.Bytes bytes.now
seen_field (Text name text) = said.Text name.now text.now
seen_field (Plain name text) = said.Plain name.now text.now
seen_field (Quoted name text) = said.Quoted name.now text.now
seen_field (Word name word) = said.Word name.now word.now
seen_field (Number name n) = said.Number name.now n
seen_field (Times name times) = said.Times name.now times
seen_field (Share name n words) = said.Share name.now n words.now
seen_field (Place path place) = said.Place path.now place
seen_field (Member name text) = said.Member name.now text.now
seen_field (MemberWord name word) = said.MemberWord name.now word.now
seen_field (MemberNumber name n) = said.MemberNumber name.now n
seen_field (MemberTexts name texts) = said.MemberTexts name.now (map (λ text. text.now) texts.now)

abbrev pub seen_fields : List Field → List Said
seen_fields fields = map seen_field fields
