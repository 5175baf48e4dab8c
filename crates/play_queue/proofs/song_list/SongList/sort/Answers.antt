use Rattle.std.proofs.Common.{◌≡◌, ◌≤◌, ◌+◌, length, slice_range, ap, ◌∙◌, subst, arith}
use Rattle.std.specs.List.Sorted.{IsPermutation}
use Rattle.std.proofs.lemmas.List.{length-map}
use Rattle.std.proofs.lemmas.List.Edits.{length-between}
use Rattle.std.proofs.lemmas.List.Sorted.{length_permutation}
use Rattle.play_queue.specs.declared.drawn.Drawn.{Drawn}
use Rattle.play_queue.specs.Shuffle.{sorted_by_words}
use Rattle.play_queue.specs.Songs.{entry_of, in_order}
use Rattle.play_queue.proofs.DrawnIds.{ids_drawn, block_sorted, block_moved, own-block}
use Rattle.play_queue.proofs.InOrder.{in_order-permuted}
use Rattle.play_queue.proofs.song_list.SongList.sort.Goals as goal

pub sort_drawn-requires : goal.sort_drawn-requires
sort_drawn-requires c =
    rw (c.in_ok-drawn.ensures.ids, c.deref.ensures.value)
    (own-block c.self.inside.order.items c.args.start c.args.end c.requires.forward c.self.invariant.0.own_ids)

pub put_back-requires-clause-in_ids : goal.put_back-requires-clause-in_ids
put_back-requires-clause-in_ids c =
    let order = c.self.inside.order.items in
    let whole : length (in_order c.self.inside.songs.entries order) ≡ length order = length-map order (entry_of c.self.inside.songs.entries) in
    let within : c.args.end ≤ length order = omega (arith, whole, rw (← c.self.view_is) at c.requires.in_range) in
    let block : ids_drawn c.in_ok-drawn.drawn.items ≡ slice_range order c.args.start c.args.end =
    c.in_ok-drawn.ensures.ids ∙ ap (λ l. slice_range l c.args.start c.args.end) c.deref.ensures.value in
    let as_many = length_permutation (ids_drawn c.in_ok-drawn.drawn.items) (ids_drawn c.sort_drawn.new.drawn.items) c.sort_drawn.ensures.moved in
    let count = length-map c.sort_drawn.new.drawn.items (λ (one : Drawn). one.id) in
    omega (arith, ap length block, length-between order c.args.start c.args.end within, as_many, count, c.requires.forward, within)

pub invariant_of-self : goal.invariant_of-self
invariant_of-self c =
    let order = c.self.inside.order.items in
    let start = c.args.start in
    let end = c.args.end in
    let sorted = ids_drawn c.sort_drawn.new.drawn.items in
    let whole : length (in_order c.self.inside.songs.entries order) ≡ length order = length-map order (entry_of c.self.inside.songs.entries) in
    let within : end ≤ length order = omega (arith, whole, rw (← c.self.view_is) at c.requires.in_range) in
    let block : ids_drawn c.in_ok-drawn.drawn.items ≡ slice_range order start end =
    c.in_ok-drawn.ensures.ids ∙ ap (λ l. slice_range l start end) c.deref.ensures.value in
    let as_many = length_permutation (ids_drawn c.in_ok-drawn.drawn.items) sorted c.sort_drawn.ensures.moved in
    let count = length-map c.sort_drawn.new.drawn.items (λ (one : Drawn). one.id) in
    let at_end : start + length c.sort_drawn.new.drawn.items ≡ end =
    omega (arith, ap length block, length-between order start end within, as_many, count, c.requires.forward) in
    let moved : IsPermutation (slice_range order start end) sorted =
    subst (λ l. IsPermutation l sorted) block c.sort_drawn.ensures.moved in
    let all = block_moved order sorted start end c.requires.forward moved in
    let long = length_permutation order _ all in
    rw (c.put_back.ensures.ids, at_end) (
      in_order-permuted c.self.inside.songs.entries order _ all c.self.invariant.0,
      omega (arith, long, c.put_back.ensures.places, c.self.invariant.1),
      omega (arith, long, c.self.invariant.2),
      c.self.invariant.3,
    )

pub returns-clause-ok : goal.returns-clause-ok
returns-clause-ok c =
    let songs = c.self.inside.songs.entries in
    let order = c.self.inside.order.items in
    let start = c.args.start in
    let end = c.args.end in
    let sorted = ids_drawn c.sort_drawn.new.drawn.items in
    let whole : length (in_order songs order) ≡ length order = length-map order (entry_of songs) in
    let within : end ≤ length order = omega (arith, whole, rw (← c.self.view_is) at c.requires.in_range) in
    let block : ids_drawn c.in_ok-drawn.drawn.items ≡ slice_range order start end =
    c.in_ok-drawn.ensures.ids ∙ ap (λ l. slice_range l start end) c.deref.ensures.value in
    let as_many = length_permutation (ids_drawn c.in_ok-drawn.drawn.items) sorted c.sort_drawn.ensures.moved in
    let count = length-map c.sort_drawn.new.drawn.items (λ (one : Drawn). one.id) in
    let at_end : start + length c.sort_drawn.new.drawn.items ≡ end =
    omega (arith, ap length block, length-between order start end within, as_many, count, c.requires.forward) in
    let made : in_order songs sorted ≡ sorted_by_words c.args.words.now (in_order songs (slice_range order start end)) =
    c.sort_drawn.ensures.sorted songs ∙ ap (λ l. sorted_by_words l (in_order songs (ids_drawn c.in_ok-drawn.drawn.items)))
    c.in_ok-drawn.ensures.words
    ∙ ap (λ l. sorted_by_words c.args.words.now (in_order songs l)) block in
    rw (← c.self.view_is, c.put_back.ensures.ids, at_end) (block_sorted songs order sorted c.args.words.now start end made)
