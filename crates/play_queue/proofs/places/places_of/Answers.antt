use Rattle.std.proofs.Common.{◌≡◌, ◌+◌, ◌==◌, ◌∷◌, [], false, nat_eq, length, get_or, drop, drop-cons, add-one, refl, sym, ap, ◌∙◌, arith, rules}
use Rattle.std.proofs.lemmas.List.{drop_all, get_or-map, length-map}
use Rattle.std.specs.HashMap.{get}
use Rattle.std.specs.List.Sorted.{IsPermutation}
use Rattle.std.proofs.lemmas.List.Sorted.{list_any-IsPermutation}
use Rattle.play_queue.specs.declared.entry.Entry.{Entry}
use Rattle.play_queue.proofs.Located.{is_one_of, step_noted, step_other, all_noted}
use Rattle.play_queue.proofs.places.places_of.Goals as goal
use Rattle.play_queue.proofs.places.places_of.Goals.{then-has_id+in_ok-note, else-has_id}

pub loop-at-preserved : goal.loop-at-preserved
loop-at-preserved c = λ id one.
    let entries = c.args.entries.now in
    let order = c.ids-order.result.now in
    let at = c.loop-at.at in
    let d : Entry = record { id = 0; uri = []; priority = 0; stamp = 0 } in
    let entry : Entry = get_or entries at d in
    let long : length order ≡ length entries = ap length c.ids-order.ensures.ids ∙ length-map entries (λ (e : Entry). e.id) in
    let read : get_or order at 0 ≡ entry.id =
    ap (λ l. get_or l at 0) c.ids-order.ensures.ids ∙ get_or-map (λ (e : Entry). e.id) entries at d 0 (omega arith) in
    let here : drop at entries ≡ entry ∷ drop (at + 1) entries = drop-cons entries at d (omega arith) ∙ rw (add-one at) refl in
    let ids : c.in_ok-sorted.sorted.items ≡ c.args.ids.now = search rules in
    let moved : IsPermutation c.args.ids.now c.sort_unstable.new.self.items = rw ids at c.sort_unstable.ensures.permutation in
    let before = rw here at (c.loop-at.invariant id one) in
    elim c.if-has_id.branch [
      | then-has_id+in_ok-note w ↦ rw w.places-is
          (step_noted _ _ at id entry (drop (at + 1) entries) (rw read at (w.in_ok-note.ensures id)) ∙ before)
      | else-has_id w ↦
          let none : is_one_of c.args.ids.now entry.id ≡ false =
          list_any-IsPermutation (λ other. other == entry.id) c.args.ids.now c.sort_unstable.new.self.items moved
          ∙ rw (← c.deref.ensures.value) (sym (rw read at c.has_id.ensures) ∙ w.if-has_id.false) in
          rw w.places-is (step_other c.args.ids.now (get nat_eq c.loop-at.places id) at id entry (drop (at + 1) entries) one none ∙ before)
    ]

pub returns : goal.returns
returns c = λ id one.
    let entries = c.args.entries.now in
    let long : length c.ids-order.result.now ≡ length entries =
    ap length c.ids-order.ensures.ids ∙ length-map entries (λ (e : Entry). e.id) in
    all_noted _ c.loop-at.at id entries
    (rw (drop_all c.loop-at.at entries (omega (arith, long))) at (c.loop-at.invariant id one))
