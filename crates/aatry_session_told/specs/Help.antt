-- The commands of a session, in words.
use Rattle.std.specs.Prelude.{ℕ, List, codes}

abbrev pub help_text : List ℕ
help_text = codes "add FILE, replace FILE, remove FILE: load the profiles of a file, or take them out\nenforce NAME, complain NAME, disable NAME: set the mode of a profile\nundo [N], redo [N]: go changes back or forward, back to the policy set as it was loaded\nloading: from now on, have the changes of the loading in the history, too\nmark NAME, back NAME: mark the policy set, and go to it\nask, why: file NAME ACCESS OWNED PATH, exec NAME OWNED PATH, cap NAME CAPABILITY, or net NAME DOMAIN TYPE\nlist, show NAME: tell what is loaded\nstatus: tell what is loaded, and which files differ from those on disk\nhistory: tell the changes, and the marks\nreload: read the files anew\nhelp, quit\n"
