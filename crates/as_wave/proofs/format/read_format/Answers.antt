use Rattle.std.proofs.Common.{refl}
use Rattle.std.proofs.Common.{◌∙◌}
use Rattle.as_wave.proofs.Fronts.{front_read}
use Rattle.as_wave.proofs.format.read_format.Goals as goal

pub returns-clause-format : goal.returns-clause-format
returns-clause-format g c = λ told within. c.parse.ensures.format
    ∙ front_read _ _ _ _ _ _ refl c.min-count.ensures c.read_exact.auto.buffer (c.in_ok-read_exact.ensures.read told)
