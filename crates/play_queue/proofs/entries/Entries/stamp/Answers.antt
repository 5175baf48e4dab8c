use Rattle.std.proofs.Common.{◌≡◌, ◌<◌, length, get_or, sym, ap, ◌∙◌, arith}
use Rattle.std.proofs.lemmas.List.{get_or_default}
use Rattle.play_queue.specs.declared.entry.Entry.{Entry}
use Rattle.play_queue.proofs.Stamped.{length-with_stamps, get_or-with_stamps}
use Rattle.play_queue.proofs.entries.Entries.stamp.Goals as goal

pub index-requires : goal.index-requires
index-requires c =
    omega (arith, rw (← c.self.view_is) at c.requires, length-with_stamps c.self.inside.stamps.items c.self.inside.songs, c.self.invariant)

pub returns : goal.returns
returns c d =
    let stamps = c.self.inside.stamps.items in
    let songs = c.self.inside.songs in
    let within : c.args.at < length songs =
    omega (arith, rw (← c.self.view_is) at c.requires, length-with_stamps stamps songs) in
    let read : c.index.result.now ≡ get_or stamps c.args.at 0 =
    c.index.ensures ∙ get_or_default stamps c.args.at c.index.result.now 0 (omega (arith, c.self.invariant)) in
    rw (← c.self.view_is)
    (read ∙ sym (ap (λ (e : Entry). e.stamp) (get_or-with_stamps stamps songs c.args.at d within c.self.invariant)))
