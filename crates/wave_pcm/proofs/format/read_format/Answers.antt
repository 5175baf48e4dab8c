use Rattle.std.proofs.Common.{◌≤◌, ◌∙◌, sym, arith}
use Rattle.song_files.specs.Source.{Grows}
use Rattle.wave_pcm.proofs.Formats.{format_read, format_refuses, ok_of}
use Rattle.wave_pcm.proofs.format.read_format.Goals as goal

pub returns-clause-format : goal.returns-clause-format
returns-clause-format g c = λ told within.
    let room : 16 ≤ c.args.head.len = omega arith in
    ok_of _ _ (format_read (g.S.Source.bytes c.args.source.now) c.read_exact.new.buffer c.args.head.first c.args.head.len room
    within (c.in_ok-read_exact.ensures.read told) ∙ sym c.parse.ensures.format)

pub returns-clause-refused : goal.returns-clause-refused
returns-clause-refused g c = λ told within.
    let room : 16 ≤ c.args.head.len = omega arith in
    format_refuses _ c.parse.result (Grows (g.S.Source.faults c.args.source.now) (g.S.Source.faults c.read_exact.new.source))
    c.read_exact.new.buffer c.parse.ensures.format
    (format_read (g.S.Source.bytes c.args.source.now) c.read_exact.new.buffer c.args.head.first c.args.head.len room within
    (c.in_ok-read_exact.ensures.read told))
