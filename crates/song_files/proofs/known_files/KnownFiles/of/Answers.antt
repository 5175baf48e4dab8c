use Rattle.std.proofs.Common.{◌≡◌, true, cond}
use Rattle.std.specs.HashSet.{contains_text}
use Rattle.std.specs.Str.{bytes_eq}
use Rattle.std.specs.String.{string_bytes}
use Rattle.std.proofs.lemmas.Map.Text.{hash_set_updates_text}
use Rattle.song_files.proofs.KnownNames.{file_joins, folder_passes}
use Rattle.song_files.proofs.known_files.KnownFiles.of.Goals as goal
use Rattle.song_files.proofs.known_files.KnownFiles.of.Goals.{then-not-entry+in_ok-clone+in_ok-insert, else-not-entry}

pub loop-entry-preserved : goal.loop-entry-preserved
loop-entry-preserved c = λ name. elim c.if-not-entry.branch [
  | then-not-entry+in_ok-clone+in_ok-insert w ↦
      let joined : contains_text w.insert.new.self name ≡ cond (bytes_eq (string_bytes w.in_ok-clone.field-0) name) true
      (contains_text c.loop-entry.names name) =
      hash_set_updates_text (string_bytes w.in_ok-clone.field-0) c.loop-entry.names w.insert.new.self true w.in_ok-insert.ensures.updates
      name in
      rw w.names-is (file_joins name c.args.entries.now c.loop-entry.entry-index c.entry-item.result (contains_text c.loop-entry.names name)
      (contains_text w.insert.new.self name) c.loop-entry-test.true
      c.entry-item.is w.if-not-entry.true (rw w.in_ok-clone.ensures.cases at joined) (c.loop-entry.invariant name))
  | else-not-entry w ↦ rw w.names-is (folder_passes name c.args.entries.now c.loop-entry.entry-index c.entry-item.result
      (contains_text c.loop-entry.names name) c.loop-entry-test.true
      c.entry-item.is w.if-not-entry.false (c.loop-entry.invariant name))
]
