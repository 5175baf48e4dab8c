-- A format that can be played.
use Rattle.std.specs.Prelude.{◌≤◌}
use Rattle.as_wave.specs.declared.format.SampleFormat.{SampleFormat}

pub record IsPlayable (format : SampleFormat) : Type 0 where
  pub some_channel : 1 ≤ format.channels
  pub two_channels : format.channels ≤ 2
  pub slow : format.rate ≤ 192000
