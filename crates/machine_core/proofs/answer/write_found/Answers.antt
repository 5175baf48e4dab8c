use Rattle.std.proofs.Common.{map}
use Rattle.std.specs.Slice.Iter.{iter_rest}
use Rattle.machine_core.specs.Stickers.{found_lines}
use Rattle.stickers.specs.Find.{pair_of}
use Rattle.command_text.proofs.LineLoops.{leaves_all, leaves_fewer, leaves_none, leaves_off, no_items}
use Rattle.machine_core.proofs.answer.write_found.Goals as goal

pub loop-song-init : goal.loop-song-init
loop-song-init c =
    rw (c.into_iter-song-iterator.ensures.into_iter_gives, c.iter-song-items.ensures) (leaves_all
    (found_lines c.args.name.now) c.args.found.now c.args.out.now)

pub loop-song-preserved : goal.loop-song-preserved
loop-song-preserved c =
    leaves_fewer (found_lines c.args.name.now) c.args.found.now (pair_of c.in-Some.song.now) (map pair_of
    (iter_rest c.next.new.self)) _ _ _ _
    (rw c.in-Some.ensures.steps at c.loop-song.invariant) c.in_ok-write_one_found.ensures

pub returns : goal.returns
returns c =
    leaves_none (found_lines c.args.name.now) c.args.found.now _ _ _
    (rw (no_items (iter_rest c.loop-song.song-iterator) c.in-None.ensures.steps.0) at c.loop-song.invariant)

pub returns-in_err-write_one_found : goal.returns-in_err-write_one_found
returns-in_err-write_one_found c =
    leaves_off (found_lines c.args.name.now) c.args.found.now (pair_of c.in-Some.song.now) (map pair_of
    (iter_rest c.next.new.self)) _ _ _ _ _
    (rw c.in-Some.ensures.steps at c.loop-song.invariant) c.in_err-write_one_found.ensures c.from_residual.ensures.0
