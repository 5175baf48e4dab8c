use Rattle.song_files.proofs.Sources.{grows_not}
use Rattle.flac.specs.Reading.{flac_reading}
use Rattle.flac.proofs.Verdicts.{verdicts_of, fault_of}
use Rattle.flac.proofs.head.read_head.Goals as goal

pub returns-clause-refused : goal.returns-clause-refused
returns-clause-refused g c = λ told. verdicts_of c.read_flac.result (flac_reading (g.S.Source.bytes c.args.source.now)) _
    (c.read_flac.ensures.refused told)

pub returns-clause-fault : goal.returns-clause-fault
returns-clause-fault g c = λ told failed. fault_of c.read_flac.result (flac_reading (g.S.Source.bytes c.args.source.now)) _
    (c.read_flac.ensures.refused told) failed

pub returns-clause-steady : goal.returns-clause-steady
returns-clause-steady g c = λ told steady failed.
    grows_not (g.S.Source.faults c.args.source.now) (g.S.Source.faults c.read_flac.new.source)
    (fault_of c.read_flac.result (flac_reading (g.S.Source.bytes c.args.source.now)) _ (c.read_flac.ensures.refused told) failed)
    (g.met.S.Source.none_failed c.read_flac.new.source ((c.read_flac.ensures.kept told).stays steady))
