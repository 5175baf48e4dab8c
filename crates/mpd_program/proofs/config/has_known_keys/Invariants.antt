use Rattle.std.proofs.Common.{◌≡◌}
use Rattle.toml.specs.View.{table_view}
use Rattle.mpd_program.specs.Configuration.{all_known}
use Rattle.mpd_program.proofs.ConfigurationLaws.{keys_known}
use Rattle.mpd_program.proofs.config.has_known_keys.Given as goal

abbrev pub invariant-loop-name : goal.invariant-loop-name
invariant-loop-name l =
    (goal.iterator-loop-name).can_next l.name-iterator ×
    (goal.iterator-loop-name).is_finite l.name-iterator ×
    (all_known (table_view l.table) ≡ keys_known l.name-iterator)
