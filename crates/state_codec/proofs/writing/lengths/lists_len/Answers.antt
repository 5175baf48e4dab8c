use Rattle.std.proofs.Common.{◌≡◌, arith}
use Rattle.state_codec.proofs.SnapshotLaws.{short_lists, lists_bound}
use Rattle.state_codec.proofs.writing.lengths.lists_len.Goals as goal

pub loop-name-init : goal.loop-name-init
loop-name-init c =
    let all : c.into_iter-name-iterator.result ≡ c.args.lists.now = cc in
    let within = c.len-within.ensures.within in
    rw all (omega arith, (lists_bound _ within, short_lists _ within))
