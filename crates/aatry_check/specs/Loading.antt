-- The report on how a file is loaded.
use Rattle.std.specs.Prelude.{ℕ, List, [], ◌∷◌, ◌++◌, codes, if◌then◌else◌}
use Rattle.std.specs.Str.{bytes_eq}
use Rattle.aatry_folder.specs.Loadings.{TopFile}
use Rattle.aatry_folder.specs.declared.loading.Loading.{Loading}
use Rattle.aatry_folder.specs.declared.loading.Loading.TheVariants.{ByFlags, Disable, ForceComplain}
use Rattle.aatry_report.specs.FilePlaces.{path_below}
use Rattle.aatry_report.specs.Fields.{Text, Word, Words, told}
use Rattle.aatry_report.specs.declared.form.Form.{Form}

-- how the file of a name is loaded, by the files at the top of the folder: any other is loaded by its flags
abbrev pub loading_in : List TopFile → List ℕ → Loading
loading_in [] name = ByFlags
loading_in (file ∷ top) name = if bytes_eq file.name name then file.loading else loading_in top name

-- the word of the state in which a file's profiles are loaded; empty where they are loaded by their flags
abbrev pub state_word : Loading → List ℕ
state_word ByFlags = []
state_word ForceComplain = codes "complain"
state_word Disable = codes "disabled"

-- the folder whose entry is the cause of that state
abbrev pub cause_of : Loading → List ℕ
cause_of ByFlags = []
cause_of ForceComplain = codes "force-complain/"
cause_of Disable = codes "disable/"

-- how a file is loaded, by its path and the cause
abbrev pub loading_told : Form → List ℕ → Loading → List ℕ → List ℕ
loading_told form path loading cause =
    told form (codes "loading")
    (Text (codes "file") path ∷ Words (codes ": ") ∷ Word (codes "state") (state_word loading) ∷ Words (codes ", by ") ∷ Text (codes "by") cause ∷ [])

-- the report on how a file is loaded: nothing where it is by its flags
abbrev pub told_loading : Form → List ℕ → List ℕ → Loading → List ℕ
told_loading form base name ByFlags = []
told_loading form base name loading = loading_told form (path_below base name) loading (cause_of loading ++ name)
