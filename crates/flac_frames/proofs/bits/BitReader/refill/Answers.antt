-- Four bytes move into the word.
use Rattle.std.proofs.Common.{ℕ, ◌+◌, ◌*◌, ◌^◌, ◌<◌, rules, arith, get_or, length-take, length-drop}
use Rattle.flac_frames.specs.Left.{left}
use Rattle.flac_frames.proofs.BitLists.{word_in_64, word_fits, four_step}
use Rattle.flac_frames.proofs.bits.BitReader.refill.Goals as goal

pub overflow_mul-self : goal.overflow_mul-self
overflow_mul-self c =
    let h : c.args.self.now.word * 4294967296 + 0 < 2 ^ 64 = word_in_64 c.args.self.now.word c.args.self.now.count 0 32 c.args.self.now.small (omega arith) (omega arith) in
    omega arith

pub invariant_of-self : goal.invariant_of-self
invariant_of-self c =
    let a : get_or c.args.self.now.rest.now 0 0 < 256 = search rules in
    let b : get_or c.args.self.now.rest.now 1 0 < 256 = search rules in
    let d : get_or c.args.self.now.rest.now 2 0 < 256 = search rules in
    let e : get_or c.args.self.now.rest.now 3 0 < 256 = search rules in
    record {
      few = omega arith;
      small = word_fits c.args.self.now.word c.args.self.now.count _ 32 c.args.self.now.small (omega arith);
      short = omega (arith, length-take {A = ℕ}, length-drop {A = ℕ}, c.args.self.now.short);
    }

pub returns-clause-same : goal.returns-clause-same
unfolding left
returns-clause-same c =
    let a : get_or c.args.self.now.rest.now 0 0 < 256 = search rules in
    let b : get_or c.args.self.now.rest.now 1 0 < 256 = search rules in
    let d : get_or c.args.self.now.rest.now 2 0 < 256 = search rules in
    let e : get_or c.args.self.now.rest.now 3 0 < 256 = search rules in
    four_step c.args.self.now.count c.args.self.now.word c.from.result c.from-2.result c.from-3.result c.from-4.result c.args.self.now.rest.now c.if-bytes-lt4.false
    c.from.ensures c.from-2.ensures c.from-3.ensures c.from-4.ensures (omega arith) (omega arith) (omega arith) (omega arith)
