use Rattle.play_queue.proofs.Blocks.{exchanged-made}
use Rattle.play_queue.proofs.song_list.turn_in.Goals as goal

pub returns : goal.returns
returns c = exchanged-made c.args.numbers.now c.args.low c.args.middle c.args.high c.rotate_left.new.self c.requires.low_block
    c.requires.high_block c.requires.in_range c.rotate_left.ensures.after
