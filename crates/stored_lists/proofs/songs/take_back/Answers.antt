use Rattle.stored_lists.proofs.Turned.{turned-back}
use Rattle.stored_lists.proofs.songs.take_back.Goals as goal

pub returns : goal.returns
returns c = turned-back c.args.uris.now c.args.from c.args.to c.rotate_left.new.self c.requires.back c.requires.in_range
    c.rotate_left.ensures.after
