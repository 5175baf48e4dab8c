-- What the ops of options do.
use Rattle.std.specs.Prelude.{Bool, true, false, not}
use Rattle.player_core.specs.declared.options.Options.{Options}
use Rattle.player_core.specs.declared.options.Single.{Single as SingleMode}
use Rattle.player_core.specs.declared.options.Single.TheVariants.{Off, On, Oneshot}
use Rattle.state_codec.specs.declared.op.setting.Setting.{Setting}
use Rattle.state_codec.specs.declared.op.setting.Setting.TheVariants.{Repeat, Random, Single, Consume}

abbrev pub with_setting : Setting → Options → Options
with_setting (Repeat on) options = record options { repeat = on }
with_setting (Random on) options = record options { random = on }
with_setting (Single single) options = record options { single = single }
with_setting (Consume value) options = record options { consume = value }

abbrev pub same_flag : Bool → Bool → Bool
same_flag true other = other
same_flag false other = not other

abbrev pub same_single : SingleMode → SingleMode → Bool
same_single Off Off = true
same_single Off On = false
same_single Off Oneshot = false
same_single On Off = false
same_single On On = true
same_single On Oneshot = false
same_single Oneshot Off = false
same_single Oneshot On = false
same_single Oneshot Oneshot = true

-- the option has the value already
abbrev pub is_set : Setting → Options → Bool
is_set (Repeat on) options = same_flag on options.repeat
is_set (Random on) options = same_flag on options.random
is_set (Single single) options = same_single single options.single
is_set (Consume value) options = same_single value options.consume
