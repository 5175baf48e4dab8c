-- Each byte moves into the word.
use Rattle.std.proofs.Common.{◌+◌, ◌*◌, ◌^◌, ◌<◌, ◌++◌, rules, arith, ap, ◌∙◌, get_or, length-take, refl, ℕ}
use Rattle.flac_frames.specs.Bits.{bits_of, bits_of_number}
use Rattle.flac_frames.specs.Left.{left}
use Rattle.flac_frames.proofs.BitLists.{word_in_64, word_fits, byte_step, none_left}
use Rattle.flac_frames.proofs.bits.BitReader.refill_end.Goals as goal

pub loop-byte-init : goal.loop-byte-init
unfolding left
loop-byte-init c = record { same = refl; small = c.args.self.now.small; counted = omega arith }

pub overflow_mul-word : goal.overflow_mul-word
overflow_mul-word c =
    let h : c.loop-byte.word * 256 + 0 < 2 ^ 64 = word_in_64 c.loop-byte.word c.loop-byte.count 0 8 c.loop-byte.invariant.small (omega arith) (omega arith) in
    omega arith

pub overflow_add-word : goal.overflow_add-word
overflow_add-word c =
    let b : get_or c.args.self.now.rest.now c.loop-byte.byte-index 0 < 256 = search rules in
    let r : c.from.result < 256 = omega arith in
    let h : c.loop-byte.word * 256 + c.from.result < 2 ^ 64 = word_in_64 c.loop-byte.word c.loop-byte.count c.from.result 8 c.loop-byte.invariant.small r (omega arith) in
    omega arith

pub overflow_add-count : goal.overflow_add-count
overflow_add-count c = omega arith

pub loop-byte-preserved : goal.loop-byte-preserved
loop-byte-preserved c =
    let b : get_or c.args.self.now.rest.now c.loop-byte.byte-index 0 < 256 = search rules in
    let r : c.from.result < 256 = omega arith in
    record {
      same = byte_step c.loop-byte.count c.loop-byte.word c.from.result c.loop-byte.byte-index c.args.self.now.rest.now (omega arith) c.from.ensures r ∙ c.loop-byte.invariant.same;
      small = word_fits c.loop-byte.word c.loop-byte.count c.from.result 8 c.loop-byte.invariant.small r;
      counted = omega arith;
    }

pub invariant_of-self : goal.invariant_of-self
invariant_of-self c = record { few = omega arith; small = c.loop-byte.invariant.small; short = omega (arith, length-take {A = ℕ}) }

pub returns-clause-same : goal.returns-clause-same
unfolding left
returns-clause-same c =
    ap (λ bytes. bits_of_number c.loop-byte.count c.loop-byte.word ++ bits_of bytes) (none_left c.args.self.now.rest.now c.loop-byte.byte-index (omega arith)) ∙ c.loop-byte.invariant.same

pub returns-clause-grown : goal.returns-clause-grown
returns-clause-grown c = omega arith
