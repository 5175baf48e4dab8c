use Rattle.std.proofs.Common.{◌≡◌, drop, map}
use Rattle.song_files.specs.Tags.{texts_of}
use Rattle.machine_core.specs.Grouped.{run_of, with_song}
use Rattle.machine_core.proofs.commands.finding.groups.add_own.Given as goal

-- the runs so far, with the texts that are left
abbrev pub invariant-loop-at : goal.invariant-loop-at
invariant-loop-at l =
    with_song (texts_of (drop l.at l.tags) l.tag) l.number (map run_of l.runs.items)
    ≡ with_song (texts_of l.tags l.tag) l.number (map run_of l.initial.runs.items)
