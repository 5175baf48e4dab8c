use Rattle.std.proofs.Common.{◌≡◌, drop}
use Rattle.song_files.specs.Tags.{texts_of}
use Rattle.song_db.specs.Query.{with_texts}
use Rattle.machine_core.proofs.commands.finding.values.take_texts.Given as goal

-- the texts so far, with those that are left
abbrev pub invariant-loop-at : goal.invariant-loop-at
invariant-loop-at l =
    with_texts l.values (texts_of (drop l.at l.tags) l.tag) ≡ with_texts l.initial.values (texts_of l.tags l.tag)
