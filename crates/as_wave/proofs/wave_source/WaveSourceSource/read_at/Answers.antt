use Rattle.std.proofs.Common.{arith, refl}
use Rattle.as_wave.proofs.Faults.{source_failed}
use Rattle.as_wave.proofs.FormReads.{length-flac, flac_fits, ok_zero}
use Rattle.as_wave.proofs.wave_source.WaveSourceSource.read_at.Goals as goal

pub returns-in-Ok-clause-no_byte : goal.returns-in-Ok-clause-no_byte
returns-in-Ok-clause-no_byte g c = λ told none some within.
    let file = g.S.Source.bytes c.args.self.now.source in
    let form = c.args.self.now.form in
    source_failed _ _ c.args.self.now.undecoded (c.in-Ok.ensures.no_byte told.0 (flac_fits form c.in-Flac.form file c.in-Flac.is told.1)
    (ok_zero c.in-Ok.count none) some (omega (arith, within, length-flac form c.in-Flac.form _ file c.in-Flac.is told.1 refl)))
