use Rattle.std.proofs.Common.{◌^◌, ◌<◌, ap, arith, length}
use Rattle.play_journal.proofs.AheadLaws.{end_is, in_use_here}
use Rattle.play_journal.proofs.PlaceLaws.{honest_both}
use Rattle.play_journal.proofs.journal.Journal.room_left.Goals as goal

pub returns : goal.returns
returns g c = rw (← c.self.view_is) (λ a b usable.
    let j = c.self.inside in
    let content = g.D.Disk.content in
    let honest = honest_both g.D.Disk.honest j.swapped j.here j.there a b in
    let kept = c.self.invariant.2 usable honest.0 honest.1 in
    let end = end_is content g.D.Disk.history j.swapped j.here j.there j.end j.layout j.generation j.base j.count kept in
    let small : length (content j.here) < 2 ^ 63 = g.met.D.Disk.length_fits j.here honest.0 in
    let here = ap (λ d. length (content d)) (in_use_here j.swapped j.here j.there) in
    omega (arith, end, small, here, kept.in_use.ends, c.len.ensures honest.0, c.saturating_add.ensures, c.saturating_sub.ensures))
