use Rattle.std.proofs.Common.{◌≡◌, true, false, sym, ◌∙◌}
use Rattle.std.proofs.lemmas.List.{get_or_default}
use Rattle.song_db.specs.Same.{same_row}
use Rattle.song_db.proofs.Turns.{put_there, set_after, same_after, other_effect}
use Rattle.song_db.proofs.batch.put_row.Goals as goal

pub returns-then-is_same-clause-rows : goal.returns-then-is_same-clause-rows
returns-then-is_same-clause-rows c =
    let place = rw (c.uri.ensures.text, c.deref.ensures.value) at c.in-Ok.ensures.there in
    let found = rw (c.uri.ensures.text, c.deref.ensures.value) at c.in-Ok.ensures.row in
    let same : true ≡ same_row c.index.result.now c.args.row = sym c.if-is_same.true ∙ c.is_same.ensures.value in
    same_after c.args.rows.now.items c.args.row c.index.result.now c.in-Ok.at place found c.index.ensures same

pub returns-else-is_same-clause-effect : goal.returns-else-is_same-clause-effect
returns-else-is_same-clause-effect c =
    let place = rw (c.uri.ensures.text, c.deref.ensures.value) at c.in-Ok.ensures.there in
    let found = rw (c.uri.ensures.text, c.deref.ensures.value) at c.in-Ok.ensures.row in
    let other : false ≡ same_row c.index.result.now c.args.row = sym c.if-is_same.false ∙ c.is_same.ensures.value in
    let old : c.replace.result ≡ c.index.result.now = c.replace.ensures.value ∙ c.index_mut.ensures.value
    ∙ get_or_default c.args.rows.now.items c.in-Ok.at c.index_mut.result.now c.index.result.now place.within ∙ sym c.index.ensures in
    rw old (other_effect c.args.rows.now.items c.args.row c.index.result.now (put_there c.args.rows.now.items c.args.row
    c.index.result.now c.in-Ok.at place found c.index.ensures) other)

pub returns-else-is_same-clause-rows : goal.returns-else-is_same-clause-rows
returns-else-is_same-clause-rows c =
    let place = rw (c.uri.ensures.text, c.deref.ensures.value) at c.in-Ok.ensures.there in
    let found = rw (c.uri.ensures.text, c.deref.ensures.value) at c.in-Ok.ensures.row in
    rw c.replace.ensures.after (set_after c.args.rows.now.items c.args.row c.index.result.now c.in-Ok.at place found c.index.ensures)
