use Rattle.disk_model.proofs.LaterLaws.{pair_on}
use Rattle.std.proofs.Common.{refl}
use Rattle.mpd_program.specs.Lives.{moment_of}
use Rattle.mpd_program.proofs.ConsoleLaws.{two_lives, good_files}
use Rattle.mpd_program.proofs.console.run_console.Goals as goal

pub returns-clause-transcript : goal.returns-clause-transcript
returns-clause-transcript g c =
    let first = c.serve_life-first.ensures in
    let second = c.serve_life-second.ensures in
    rw c.ended-2.ensures
    (two_lives c.args.profile (g.D.Disk.honest c.args.a × g.D.Disk.honest c.args.b) (g.D.Disk.honest c.serve_life-first.result.a
    × g.D.Disk.honest c.serve_life-first.result.b)
    (moment_of g.D.Disk.content g.D.Disk.history g.D.Disk.faults c.args.a c.args.b (g.R.Read.remaining c.args.reader.now)
    (g.W.Write.contents c.args.writer.now))
    (moment_of g.D.Disk.content g.D.Disk.history g.D.Disk.faults c.serve_life-first.result.a c.serve_life-first.result.b
    (g.R.Read.remaining c.serve_life-first.new.reader) (g.W.Write.contents c.serve_life-first.new.writer))
    (moment_of g.D.Disk.content g.D.Disk.history g.D.Disk.faults c.serve_life-second.result.a c.serve_life-second.result.b
    (g.R.Read.remaining c.serve_life-second.new.reader) (g.W.Write.contents c.serve_life-second.new.writer))
    c.serve_life-first.result.came_to c.serve_life-second.result.came_to _ _
    (c.is_faulted.ensures.0 c.if-not-is_faulted.false) first.life (λ h. (first.later.a.honesty.0 h.0, first.later.b.honesty.0 h.1))
    (λ h. (
      g.met.D.Disk.content_is_image c.serve_life-first.result.a h.0,
      g.met.D.Disk.content_is_image c.serve_life-first.result.b h.1,
    ))
    second.life second.later.a.counted second.later.b.counted refl refl)

pub returns-clause-opens : goal.returns-clause-opens
returns-clause-opens g c = λ ha hb all number is. good_files c.history_keeps_the_profile.ensures c.args.profile _ _ _ _ _ (returns-clause-transcript g c) (ha, hb) all number is

pub returns-clause-later : goal.returns-clause-later
returns-clause-later g c = rw c.ended-2.ensures (pair_on c.serve_life-first.ensures.later c.serve_life-second.ensures.later)
