-- The refusals of a text: the number, name and words of each; and the texts of errors.
use Rattle.std.specs.Prelude.{ℕ, List, ◌++◌, codes, Option, None, Some}
use Rattle.std.specs.Fmt.{decimal}
use Rattle.aa_text_files.specs.declared.text_error.Place.{Place}
use Rattle.aa_text_files.specs.declared.text_error.TextError.{TextError}
use Rattle.aa_text_files.specs.declared.text_error.TextRefusal.{TextRefusal}
use Rattle.aa_text_files.specs.declared.text_error.TextRefusal.TheVariants.{ZeroByte, OpenQuote, OpenOther, NoFile, IncludeDepth, TextTooBig, Undefined, Redefined, AppendUndefined, Cycle, Memory}

-- the one table of numbers and names
abbrev pub described : TextRefusal → ℕ × List ℕ
described ZeroByte = (20, codes "ZeroByte")
described OpenQuote = (21, codes "OpenQuote")
described OpenOther = (22, codes "OpenOther")
described NoFile = (23, codes "NoFile")
described IncludeDepth = (24, codes "IncludeDepth")
described TextTooBig = (25, codes "TextTooBig")
described Undefined = (26, codes "Undefined")
described Redefined = (27, codes "Redefined")
described AppendUndefined = (28, codes "AppendUndefined")
described Cycle = (29, codes "Cycle")
described Memory = (99, codes "Memory")

abbrev pub number_of : TextRefusal → ℕ
number_of refusal = (described refusal).0

abbrev pub name_of : TextRefusal → List ℕ
name_of refusal = (described refusal).1

-- what is wrong, in words for users
abbrev pub words_of : TextRefusal → List ℕ
words_of ZeroByte = codes "a file holds a zero byte"
words_of OpenQuote = codes "a quote isn't closed in its line"
words_of OpenOther = codes "a name or a brace isn't closed"
words_of NoFile = codes "there is no such file"
words_of IncludeDepth = codes "the includes are nested too deep"
words_of TextTooBig = codes "the files are too long together"
words_of Undefined = codes "a variable isn't defined"
words_of Redefined = codes "a variable is defined twice"
words_of AppendUndefined = codes "values are added to a variable that isn't defined"
words_of Cycle = codes "a variable leads to itself"
words_of Memory = codes "memory ran out"

-- a refusal without a place
abbrev pub plain : TextRefusal → TextError
plain refusal = record { refusal = refusal; place = None }

-- a place in an error's text: the file's index among the files, from 0 on, and the offset in bytes
abbrev pub place_text : Place → List ℕ
place_text place = codes "file " ++ decimal place.file ++ codes " at " ++ decimal place.at

-- the text of an error: its refusal's number and name, and its place, if it has one
abbrev pub error_text : ℕ → List ℕ → Option Place → List ℕ
error_text number name None = decimal number ++ codes " " ++ name
error_text number name (Some place) = decimal number ++ codes " " ++ name ++ codes " " ++ place_text place
