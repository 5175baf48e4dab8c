use Rattle.as_wave.proofs.FormReads.{length-pcm, length-flac}
use Rattle.as_wave.proofs.wave_source.WaveSourceSource.len.Goals as goal

pub returns-in-Pcm : goal.returns-in-Pcm
returns-in-Pcm g c = λ told. length-pcm c.args.self.now.form c.in-Pcm.plan (g.S.Source.bytes c.args.self.now.source) c.in-Pcm.is told.1

pub returns-in-Flac : goal.returns-in-Flac
returns-in-Flac g c = λ told. length-flac c.args.self.now.form c.in-Flac.form c.len-in-Flac.result (g.S.Source.bytes c.args.self.now.source)
    c.in-Flac.is told.1 c.len-in-Flac.ensures.len
