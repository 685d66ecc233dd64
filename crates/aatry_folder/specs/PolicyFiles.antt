-- What lies below a folder of policy.
use Rattle.std.specs.Prelude.{ℕ, List}
use Rattle.aa_text_files.specs.Files.{File}
use Rattle.aatry_folder.specs.declared.policy_files.PolicyFiles.{PolicyFiles as CodeFiles}

-- all that lies below a folder of policy, and its path
pub record PolicyFiles : Type 0 where
  pub files : List File
  pub base : List ℕ

-- what lies below a folder, as the code has it
abbrev pub seen_files : CodeFiles → PolicyFiles
seen_files below = record { files = below.files.now; base = below.base.now }
