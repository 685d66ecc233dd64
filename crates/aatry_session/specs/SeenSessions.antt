-- Sessions of the code.
use Rattle.aa_set_manager.specs.Manager.{Managed}
use Rattle.aatry_session.specs.Turns.{Kept}
use Rattle.aatry_session.specs.declared.changes.Changes.{Changes}

-- a session of a manager and what is kept of its changes, in the code
abbrev pub seen_session : Managed → Changes → Kept
seen_session managed changes = record {
  managed = managed;
  texts = changes.texts.items;
  origins = changes.origins.items;
  loaded = changes.loaded;
}
