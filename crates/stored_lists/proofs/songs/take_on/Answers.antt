use Rattle.stored_lists.proofs.Turned.{turned-on}
use Rattle.stored_lists.proofs.songs.take_on.Goals as goal

pub returns : goal.returns
returns c = turned-on c.args.uris.now c.args.from c.args.to c.rotate_left.new.self c.requires.forward c.requires.in_range
    c.rotate_left.ensures.after
