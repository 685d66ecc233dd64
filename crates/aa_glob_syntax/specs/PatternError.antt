-- The refusals of a pattern's text: the number, name and words of each (docs/policy.md).
use Rattle.std.specs.Prelude.{ℕ, List, codes}
use Rattle.aa_glob_syntax.specs.declared.pattern_error.PatternError.{PatternError}
use Rattle.aa_glob_syntax.specs.declared.pattern_error.PatternError.TheVariants.{NotAbsolute, UnclosedClass, EmptyClass, BadRange, UnclosedGroup, StrayClose, FewAlternatives, BadEscape, TooLong, TooDeep, ZeroByte, Memory}

-- the one table of numbers and names
abbrev pub described : PatternError → ℕ × List ℕ
described NotAbsolute = (1, codes "NotAbsolute")
described UnclosedClass = (2, codes "UnclosedClass")
described EmptyClass = (3, codes "EmptyClass")
described BadRange = (4, codes "BadRange")
described UnclosedGroup = (5, codes "UnclosedGroup")
described StrayClose = (6, codes "StrayClose")
described FewAlternatives = (7, codes "FewAlternatives")
described BadEscape = (8, codes "BadEscape")
described TooLong = (9, codes "TooLong")
described TooDeep = (10, codes "TooDeep")
described ZeroByte = (11, codes "ZeroByte")
described Memory = (99, codes "Memory")

abbrev pub number_of : PatternError → ℕ
number_of r = (described r).0

abbrev pub name_of : PatternError → List ℕ
name_of r = (described r).1

-- what is wrong, in words for users
abbrev pub words_of : PatternError → List ℕ
words_of NotAbsolute = codes "the pattern doesn't begin with a slash"
words_of UnclosedClass = codes "a class of the pattern isn't closed"
words_of EmptyClass = codes "a class of the pattern lists no byte"
words_of BadRange = codes "a range of the pattern ends before it begins"
words_of UnclosedGroup = codes "a group of the pattern isn't closed"
words_of StrayClose = codes "a brace of the pattern closes no group"
words_of FewAlternatives = codes "a group of the pattern has one alternative alone"
words_of BadEscape = codes "a backslash of the pattern stands before a letter, a digit or the end"
words_of TooLong = codes "the pattern is longer than 4,096 bytes"
words_of TooDeep = codes "the groups of the pattern are nested too deep"
words_of ZeroByte = codes "the pattern holds a zero byte"
words_of Memory = codes "no memory is left"
