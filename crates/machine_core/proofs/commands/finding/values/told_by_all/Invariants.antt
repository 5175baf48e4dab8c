use Rattle.std.proofs.Common.{◌≡◌, drop}
use Rattle.std.specs.List.{flat_map}
use Rattle.song_db.specs.Query.{with_texts}
use Rattle.machine_core.specs.Finding.{told_texts, told_values}
use Rattle.machine_core.proofs.commands.finding.values.told_by_all.Given as goal

-- the values so far, with those of the songs that are left
abbrev pub invariant-loop-row : goal.invariant-loop-row
invariant-loop-row l =
    with_texts l.values (flat_map (told_texts l.fn.profile l.tag) (drop l.row-index l.rows)) ≡ told_values l.fn.profile l.rows l.tag
