use Rattle.std.proofs.Common.{◌≤◌, ◌+◌, ◌*◌, length, arith, ap, All}
use Rattle.as_wave.specs.ChunkHead.{StandsBy, total_size}
use Rattle.as_wave.proofs.PlanReads.{sound_in_plan, chunk_in_plan, length-planned}
use Rattle.as_wave.proofs.wave_source.read_planned.Goals as goal

pub returns-then-place-sound_len-clause-read : goal.returns-then-place-sound_len-clause-read
returns-then-place-sound_len-clause-read g c = λ told fits.
    let plan = c.args.plan.now in
    sound_in_plan c.read_sound.result (g.S.Source.bytes c.args.source.now) c.read_sound.new.buffer plan.format plan.first plan.count
    plan.rest plan.kept.items c.args.at (length c.args.buffer.now) (omega arith) c.read_sound.ensures.count (c.read_sound.ensures.read told)

pub read_chunk-requires-clause-fits : goal.read_chunk-requires-clause-fits
read_chunk-requires-clause-fits g c =
    let each : All (StandsBy 18446744073709551615) c.deref.result.now = rw c.deref.ensures.value c.args.plan.now.places in
    omega (arith, (c.in-Some.ensures.within 18446744073709551615 each).within)

pub returns-in-Some-clause-read : goal.returns-in-Some-clause-read
returns-in-Some-clause-read g c = λ told fits.
    let plan = c.args.plan.now in
    let file = g.S.Source.bytes c.args.source.now in
    let each : All (StandsBy (length file)) c.deref.result.now = rw c.deref.ensures.value fits.kept in
    let stands = c.in-Some.ensures.within (length file) each in
    let after : 44 + 2 * plan.count ≤ c.args.at = omega arith in
    let found = c.in-Some.ensures.found file each in
    chunk_in_plan c.read_chunk.result file c.read_chunk.new.buffer found.0 plan.format plan.first plan.count plan.rest
    plan.kept.items c.in-Some.head.now c.args.at c.in-Some.inside (length c.args.buffer.now) after stands (rw c.deref.ensures.value
    at found.1) c.read_chunk.ensures.count (c.read_chunk.ensures.read told stands)

pub returns-in-Some-clause-no_byte : goal.returns-in-Some-clause-no_byte
returns-in-Some-clause-no_byte g c = λ told fits none some within.
    let file = g.S.Source.bytes c.args.source.now in
    let each : All (StandsBy (length file)) c.deref.result.now = rw c.deref.ensures.value fits.kept in
    c.read_chunk.ensures.no_byte told (c.in-Some.ensures.within (length file) each) none some

pub returns-in-None-clause-no_byte : goal.returns-in-None-clause-no_byte
returns-in-None-clause-no_byte g c = λ told fits none some within.
    absurd (omega (
      arith,
      within,
      length-planned c.args.plan.now (g.S.Source.bytes c.args.source.now) fits,
      c.args.plan.now.counted,
      c.in-None.ensures.none,
      ap total_size c.deref.ensures.value,
    ))
