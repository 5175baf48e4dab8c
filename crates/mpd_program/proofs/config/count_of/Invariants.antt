use Rattle.std.proofs.Common.{◌≡◌, ◌≤◌, count_by, take}
use Rattle.toml.specs.View.{view}
use Rattle.mpd_program.specs.Configuration.{is_text}
use Rattle.mpd_program.proofs.config.count_of.Given as goal

abbrev pub invariant-loop-value : goal.invariant-loop-value
invariant-loop-value l =
    (l.count ≡ count_by (λ value. is_text l.name (view value)) (take l.value-index l.values)) ×
    (l.count ≤ l.value-index)
