use Rattle.std.proofs.Common.{◌≡◌, length, get_or, sym, arith}
use Rattle.std.proofs.lemmas.List.{length-map, get_or-map}
use Rattle.std.proofs.lemmas.List.Edits.{paste_more, paste_all}
use Rattle.play_queue.specs.declared.drawn.Drawn.{Drawn}
use Rattle.play_queue.proofs.DrawnIds.{ids_drawn}
use Rattle.play_queue.proofs.drawn.put_back_in.Goals as goal

-- one more id is back
pub loop-at-preserved : goal.loop-at-preserved
loop-at-preserved c =
    let rows = c.args.drawn.now in
    let at = c.loop-at.at in
    let none : Drawn = record { word = 0; id = 0; near = 0 } in
    let long : length (ids_drawn rows) ≡ length rows = length-map rows (λ (row : Drawn). row.id) in
    let read : get_or (ids_drawn rows) at 0 ≡ (get_or rows at none).id = get_or-map (λ (row : Drawn). row.id) rows at none 0 (omega arith) in
    rw (c.loop-at.invariant, ← read)
    (paste_more c.args.ids.now c.args.start (ids_drawn rows) at 0 (omega (arith, c.requires.in_ids)) (omega arith))

pub returns : goal.returns
returns c =
    let rows = c.args.drawn.now in
    let long : length (ids_drawn rows) ≡ length rows = length-map rows (λ (row : Drawn). row.id) in
    let all : c.loop-at.at ≡ length rows = omega arith in
    rw (c.loop-at.invariant, all) (paste_all c.args.ids.now c.args.start (ids_drawn rows) (length rows) (sym long))
