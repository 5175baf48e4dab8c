use Rattle.std.proofs.Common.{◌≡◌, true}
use Rattle.std.specs.Prelude.{option_copied}
use Rattle.id3_tags.specs.Writing.{written, can_write, IsReadBack}
use Rattle.id3_tags.proofs.ReadBack.{both_ok, read_back_of}
use Rattle.id3_tags.proofs.writer.write_tag.Goals as goal

pub returns-clause-read_back : goal.returns-clause-read_back
returns-clause-read_back c = both_ok c.write_within.result
    (λ bytes. bytes.items ≡ written c.args.frames.now (option_copied c.args.picture))
    (λ bytes. IsReadBack c.args.frames.now (option_copied c.args.picture) bytes.items)
    (can_write c.args.frames.now (option_copied c.args.picture) ≡ true)
    (λ bytes is can. read_back_of c.args.frames.now (option_copied c.args.picture) bytes.items is can)
    c.write_within.ensures.written c.write_within.ensures.allowed
