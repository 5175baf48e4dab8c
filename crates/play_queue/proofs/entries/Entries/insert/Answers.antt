use Rattle.std.proofs.Common.{◌≡◌, ◌≤◌, ◌+◌, ℕ, length, replicate, sym, ap, ◌∙◌, arith}
use Rattle.std.proofs.lemmas.List.{length-append, length-map, length-replicate}
use Rattle.std.proofs.lemmas.List.Sorted.{length_permutation}
use Rattle.play_queue.specs.declared.entry.Entry.{Entry}
use Rattle.play_queue.specs.Entries.{new_entries}
use Rattle.play_queue.specs.Queue.{with_stamp}
use Rattle.play_queue.specs.Songs.{unstamped}
use Rattle.play_queue.proofs.Added.{length-new_entries}
use Rattle.play_queue.proofs.InOrder.{exchanged-permutes}
use Rattle.play_queue.proofs.Stamped.{length-with_stamps, get_or-with_stamps, order-added}
use Rattle.play_queue.proofs.entries.Entries.insert.Goals as goal

pub push_all-requires-clause-few : goal.push_all-requires-clause-few
push_all-requires-clause-few c =
    omega (arith, rw (← c.self.view_is) at c.requires.few, length-with_stamps c.self.inside.stamps.items c.self.inside.songs)

pub push_all-requires-clause-fresh : goal.push_all-requires-clause-fresh
push_all-requires-clause-fresh c k d within =
    let stamps = c.self.inside.stamps.items in
    let songs = c.self.inside.songs in
    let read = ap (λ (e : Entry). e.id) (get_or-with_stamps stamps songs k d within c.self.invariant) in
    let below = (rw (← c.self.view_is) at c.requires.fresh) k d (omega (arith, within, length-with_stamps stamps songs)) in
    omega (arith, read, below)

pub exchange-requires-clause-low_block : goal.exchange-requires-clause-low_block
exchange-requires-clause-low_block c =
    omega (
      arith,
      rw (← c.self.view_is) at c.requires.in_range,
      length-with_stamps c.self.inside.stamps.items c.self.inside.songs,
      c.len-before.ensures.len,
    )

pub exchange-requires-clause-in_range : goal.exchange-requires-clause-in_range
exchange-requires-clause-in_range c =
    let songs = c.self.inside.songs in
    let new = new_entries c.args.first c.args.uris.items in
    omega (
      arith,
      ap length c.in_ok-push_all.ensures.ok,
      length-append songs (unstamped new),
      length-map new (with_stamp 0),
      length-new_entries c.args.first c.args.uris.items,
      c.len-before.ensures.len,
    )

pub add-requires-clause-in_range : goal.add-requires-clause-in_range
add-requires-clause-in_range c =
    let songs = c.self.inside.songs in
    let new = new_entries c.args.first c.args.uris.items in
    let within : c.args.at ≤ length songs =
    omega (arith, rw (← c.self.view_is) at c.requires.in_range, length-with_stamps c.self.inside.stamps.items songs) in
    let moved = exchanged-permutes c.push_all.new.self c.args.at c.len-before.result (c.len-before.result + c.len-count.result)
    (omega (arith, within, c.len-before.ensures.len)) (omega arith) in
    omega (
      arith,
      within,
      ap length c.ids.ensures.ids,
      length-map c.exchange.new.self (λ (entry : Entry). entry.id),
      ap length c.exchange.ensures,
      length_permutation c.push_all.new.self _ moved,
      ap length c.in_ok-push_all.ensures.ok,
      length-append songs (unstamped new),
      length-map new (with_stamp 0),
      length-new_entries c.args.first c.args.uris.items,
    )

pub invariant_of-self-2 : goal.invariant_of-self-2
invariant_of-self-2 c =
    let stamps = c.self.inside.stamps.items in
    let songs = c.self.inside.songs in
    let new = new_entries c.args.first c.args.uris.items in
    let within : c.args.at ≤ length songs =
    omega (arith, rw (← c.self.view_is) at c.requires.in_range, length-with_stamps stamps songs) in
    let moved = exchanged-permutes c.push_all.new.self c.args.at c.len-before.result (c.len-before.result + c.len-count.result)
    (omega (arith, within, c.len-before.ensures.len)) (omega arith) in
    let as_many : length c.exchange.new.self ≡ length c.push_all.new.self =
    ap length c.exchange.ensures ∙ length_permutation c.push_all.new.self _ moved in
    let made : length c.push_ones.new.stamps.items ≡ length c.reserve.new.self.items + c.len-count.result =
    ap length c.push_ones.ensures ∙ length-append c.reserve.new.self.items (replicate c.len-count.result 1)
    ∙ ap (λ n. length c.reserve.new.self.items + n) (length-replicate {A = ℕ} c.len-count.result 1) in
    omega (
      arith,
      made,
      as_many,
      ap length c.reserve.ensures.items,
      ap length c.in_ok-push_all.ensures.ok,
      length-append songs (unstamped new),
      length-map new (with_stamp 0),
      length-new_entries c.args.first c.args.uris.items,
      c.self.invariant,
    )

pub returns-clause-ok : goal.returns-clause-ok
returns-clause-ok c =
    let stamps = c.self.inside.stamps.items in
    let songs = c.self.inside.songs in
    let new = new_entries c.args.first c.args.uris.items in
    let within : c.args.at ≤ length songs =
    omega (arith, rw (← c.self.view_is) at c.requires.in_range, length-with_stamps stamps songs) in
    let before : c.len-before.result ≡ length songs = c.len-before.ensures.len in
    let count : c.len-count.result ≡ length c.args.uris.items = omega arith in
    let as_many : length c.args.uris.items ≡ length new = sym (length-new_entries c.args.first c.args.uris.items) in
    rw (← c.self.view_is, c.push_ones.ensures, c.reserve.ensures.items, c.exchange.ensures, c.in_ok-push_all.ensures.ok, before, count)
    (order-added stamps songs new c.args.at (length c.args.uris.items) c.self.invariant within as_many)
