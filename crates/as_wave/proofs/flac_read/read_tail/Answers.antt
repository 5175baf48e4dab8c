use Rattle.std.proofs.Common.{◌≡◌, ◌+◌, ◌-◌, ◌≤◌, length, arith, ap, ◌∙◌, sym, refl, slice_range}
use Rattle.as_wave.proofs.FlacParts.{front_read, picture_read_of, pad_read, pad_is}
use Rattle.as_wave.proofs.flac_read.read_tail.Goals as goal

pub returns-then-at-front_len-clause-read : goal.returns-then-at-front_len-clause-read
returns-then-at-front_len-clause-read g c = λ told within.
    front_read c.args.tail.now (g.S.Source.bytes c.args.source.now) c.copy_from.new.buffer c.args.at c.copy_from.result
    (omega (arith, c.copy_from.ensures.count, ap length c.deref.ensures.value))
    (rw c.deref.ensures.value at c.copy_from.ensures.copied)

pub returns-then-inside-tail-clause-read : goal.returns-then-inside-tail-clause-read
returns-then-inside-tail-clause-read g c = λ told within.
    picture_read_of c.read_range.result c.args.tail.now (g.S.Source.bytes c.args.source.now) c.read_range.new.buffer c.args.at
    (c.args.at - c.len-front_len.result) (length c.args.buffer.now) within (omega arith) c.read_range.ensures.count (c.read_range.ensures.read told)

pub returns-clause-read : goal.returns-clause-read
returns-clause-read g c = λ told within.
    pad_read c.args.tail.now (g.S.Source.bytes c.args.source.now) c.copy_from-2.new.buffer _ c.args.at _ c.copy_from-2.result within (omega
    arith) (pad_is c.args.tail.now.pad c.args.tail.now.padded) c.copy_from-2.ensures.copied
