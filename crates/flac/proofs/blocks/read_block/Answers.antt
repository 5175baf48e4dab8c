use Rattle.std.proofs.Common.{◌≡◌, ◌∙◌, sym, arith}
use Rattle.flac.specs.Blocks.{block_at, sound}
use Rattle.flac.proofs.BlockList.{no_block, block_is, sound_refused}
use Rattle.flac.proofs.Verdicts.{ok_by}
use Rattle.flac.proofs.blocks.read_block.Goals as goal

pub returns-then-end-at-lt-HEAD_LEN-clause-refused : goal.returns-then-end-at-lt-HEAD_LEN-clause-refused
returns-then-end-at-lt-HEAD_LEN-clause-refused g c = λ told all. no_block _ _ (omega (arith, all))

pub returns-clause-block : goal.returns-clause-block
returns-clause-block g c = λ told all.
    let is : block_at (g.S.Source.bytes c.args.source.now) c.args.at ≡ c.check.result
    = block_is (g.S.Source.bytes c.args.source.now) c.read_bytes.new.buffer c.args.at c.args.end c.new.result (omega arith) all
    (c.in_ok-read_bytes.ensures.read told) c.new.ensures ∙ sym c.check.ensures in
    ok_by c.check.result (block_at (g.S.Source.bytes c.args.source.now) c.args.at) is

pub returns-clause-refused : goal.returns-clause-refused
returns-clause-refused g c = λ told all.
    sound_refused c.args.end c.new.result (block_at (g.S.Source.bytes c.args.source.now) c.args.at) c.check.result _ c.check.ensures
    (block_is (g.S.Source.bytes c.args.source.now) c.read_bytes.new.buffer c.args.at c.args.end c.new.result (omega arith) all
    (c.in_ok-read_bytes.ensures.read told) c.new.ensures)
