use Rattle.std.proofs.Common.{◌≡◌, drop}
use Rattle.std.specs.List.{find}
use Rattle.as_wave.proofs.FrameRows.{is_row}
use Rattle.as_wave.proofs.flac_names.frame_named.Given as goal

-- the rows that are left decide
abbrev pub invariant-loop-row : goal.invariant-loop-row
invariant-loop-row l = find (is_row l.name) (drop l.row-index l.row-items) ≡ find (is_row l.name) l.row-items
