use Rattle.std.specs.Prelude.{IfErr}
use Rattle.std.proofs.lemmas.Result.{err_from_is_err_and}
use Rattle.song_files.specs.Source.{Grows}
use Rattle.wave_pcm.specs.Reading.{wave_reading, Refuses}
use Rattle.wave_pcm.proofs.Readings.{verdicts_of, fault_of}
use Rattle.song_files.proofs.Sources.{grows_not}
use Rattle.wave_pcm.proofs.head.read_head.Goals as goal

pub returns-in_err-head-clause-refused : goal.returns-in_err-head-clause-refused
returns-in_err-head-clause-refused g c = λ told.
    let p = err_from_is_err_and c.from_residual.result c.from_residual.ensures.1 in
    let refused : IfErr c.from_residual.result (Refuses (wave_reading (g.S.Source.bytes c.args.source.now) c.args.wanted)
    (Grows (g.S.Source.faults c.args.source.now) (g.S.Source.faults c.read_wave.new.source))) =
    rw (p.1, p.2) (c.in_err-head.ensures.refused told) in
    verdicts_of c.from_residual.result (wave_reading (g.S.Source.bytes c.args.source.now) c.args.wanted) _ refused

pub returns-in_err-head-clause-fault : goal.returns-in_err-head-clause-fault
returns-in_err-head-clause-fault g c = λ told.
    let p = err_from_is_err_and c.from_residual.result c.from_residual.ensures.1 in
    let refused : IfErr c.from_residual.result (Refuses (wave_reading (g.S.Source.bytes c.args.source.now) c.args.wanted)
    (Grows (g.S.Source.faults c.args.source.now) (g.S.Source.faults c.read_wave.new.source))) =
    rw (p.1, p.2) (c.in_err-head.ensures.refused told) in
    fault_of c.from_residual.result (wave_reading (g.S.Source.bytes c.args.source.now) c.args.wanted) _ refused

pub returns-in_err-head-clause-steady : goal.returns-in_err-head-clause-steady
returns-in_err-head-clause-steady g c = λ told steady failed.
    let p = err_from_is_err_and c.from_residual.result c.from_residual.ensures.1 in
    let refused : IfErr c.from_residual.result (Refuses (wave_reading (g.S.Source.bytes c.args.source.now) c.args.wanted)
    (Grows (g.S.Source.faults c.args.source.now) (g.S.Source.faults c.read_wave.new.source))) =
    rw (p.1, p.2) (c.in_err-head.ensures.refused told) in
    grows_not (g.S.Source.faults c.args.source.now) (g.S.Source.faults c.read_wave.new.source)
    (fault_of c.from_residual.result (wave_reading (g.S.Source.bytes c.args.source.now) c.args.wanted) _ refused failed)
    (g.met.S.Source.none_failed c.read_wave.new.source ((c.in_err-head.ensures.kept told).stays steady))
