use Rattle.std.proofs.Common.{◌≡◌, ◌-◌, ◌∷◌, [], ◌++◌, length, take, vec_len, ap, ◌∙◌, subst, arith}
use Rattle.std.proofs.lemmas.List.{length-append, length-take-le}
use Rattle.play_queue.specs.Songs.{AreInOrder}
use Rattle.play_queue.proofs.InOrder.{in_order-less, entries-less}
use Rattle.play_queue.proofs.Tops.{tops-without}
use Rattle.play_queue.proofs.song_list.SongList.remove_last.Goals as goal

pub invariant_of-self : goal.invariant_of-self
invariant_of-self c =
    let songs = c.self.inside.songs.entries in
    let left = c.pop.new.self.items in
    let id = c.in-Some.id in
    let was : c.self.inside.order.items ≡ left ++ id ∷ [] = c.in-Some.ensures.items in
    let kept : AreInOrder songs (left ++ id ∷ []) = subst (AreInOrder songs) was c.self.invariant.0 in
    let near = c.self.inside.near.items in
    let short : length (take (vec_len c.self.inside.near - 1) near) ≡ length left =
    length-take-le (vec_len c.self.inside.near - 1) near (omega arith)
    ∙ omega (arith, ap length was, length-append left (id ∷ []), c.self.invariant.1) in (
      in_order-less songs c.forget.new.songs.entries left id kept c.forget.ensures,
      ap length c.pop-in-Some.ensures.rest ∙ short,
      omega (arith, ap length was, length-append left (id ∷ []), c.self.invariant.2),
      tops-without songs c.forget.new.songs.entries c.self.inside.top id c.self.invariant.3 c.forget.ensures,
    )

pub returns-in-Some : goal.returns-in-Some
returns-in-Some c =
    let songs = c.self.inside.songs.entries in
    let left = c.pop.new.self.items in
    let id = c.in-Some.id in
    let was : c.self.inside.order.items ≡ left ++ id ∷ [] = c.in-Some.ensures.items in
    let kept : AreInOrder songs (left ++ id ∷ []) = subst (AreInOrder songs) was c.self.invariant.0 in
    rw (← c.self.view_is, was) (entries-less songs c.forget.new.songs.entries left id kept c.forget.ensures)
