use Rattle.std.proofs.Common.{◌∙◌, ap, map, string_bytes}
use Rattle.aatry_folder.specs.WholeNames.{whole_names}
use Rattle.aatry_folder.proofs.policy_folder.files_below.Goals as goal

-- the names come of the walk, and the whole paths of what was read first
pub returns-clause-below : goal.returns-clause-below
returns-clause-below g c = record {
  answers = c.in_ok-names.ensures.walked.0;
  names = map string_bytes c.in_ok-names.names.items;
  whole = map string_bytes c.in_ok-whole.whole.items;
  walked = c.in_ok-names.ensures.walked.1;
  found = c.in_ok-names.ensures.found;
  asked = record {
    files = c.in_ok-files.files.files;
    unread = c.in_ok-files.files.unread.items;
    named = c.in_ok-files.ensures.names ∙ ap (map string_bytes) c.deref.ensures.value;
    read = c.in_ok-files.ensures.read;
    front = c.in_ok-whole.ensures.0;
    leads = c.in_ok-whole.ensures.1;
    asked = c.in_ok-whole.ensures.2
        ∙ ap (λ names. whole_names c.in_ok-whole.ensures.0 (map string_bytes names) c.in_ok-files.files.files) c.deref-2.ensures.value;
  };
  named = c.in_ok-found.ensures.named ∙ c.in_ok-found.ensures.all;
  takable = c.in_ok-found.ensures.takable;
  read = c.in_ok-found.ensures.read;
}
