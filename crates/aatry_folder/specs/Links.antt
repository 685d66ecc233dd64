-- Links that lead nowhere, and other errors of reading folders.
use Rattle.std.specs.Prelude.{Bool, true, false}
use Rattle.std.specs.declared.io.ErrorKind.{ErrorKind}
use Rattle.std.specs.declared.io.ErrorKind.TheVariants.{NotFound, NotADirectory, FilesystemLoop, OutOfMemory}

-- A link leads nowhere where following it fails since nothing is there, a file stands in place of a folder, or it leads in a circle.
abbrev pub leads_nowhere : ErrorKind → Bool
leads_nowhere NotFound = true
leads_nowhere NotADirectory = true
leads_nowhere FilesystemLoop = true
leads_nowhere _ = false

-- an error is for want of memory
abbrev pub is_for_memory : ErrorKind → Bool
is_for_memory OutOfMemory = true
is_for_memory _ = false
