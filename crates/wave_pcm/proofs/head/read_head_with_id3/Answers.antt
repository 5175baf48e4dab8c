use Rattle.wave_pcm.specs.Reading.{wave_reading}
use Rattle.wave_pcm.proofs.Readings.{verdicts_of, fault_of}
use Rattle.song_files.proofs.Sources.{grows_not}
use Rattle.wave_pcm.proofs.head.read_head_with_id3.Goals as goal

pub returns-clause-refused : goal.returns-clause-refused
returns-clause-refused g c = λ told. verdicts_of c.read_wave.result (wave_reading (g.S.Source.bytes c.args.source.now) c.args.wanted) _
    (c.read_wave.ensures.refused told)

pub returns-clause-fault : goal.returns-clause-fault
returns-clause-fault g c = λ told. fault_of c.read_wave.result (wave_reading (g.S.Source.bytes c.args.source.now) c.args.wanted) _
    (c.read_wave.ensures.refused told)

pub returns-clause-steady : goal.returns-clause-steady
returns-clause-steady g c = λ told steady failed.
    grows_not (g.S.Source.faults c.args.source.now) (g.S.Source.faults c.read_wave.new.source)
    (fault_of c.read_wave.result (wave_reading (g.S.Source.bytes c.args.source.now) c.args.wanted) _ (c.read_wave.ensures.refused told)
    failed)
    (g.met.S.Source.none_failed c.read_wave.new.source ((c.read_wave.ensures.kept told).stays steady))
