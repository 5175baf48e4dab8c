use Rattle.std.proofs.Common.{[], ◌∷◌, sym, ◌∙◌}
use Rattle.std.proofs.lemmas.List.{set_split}
use Rattle.song_db.proofs.told_rows.put_told.Goals as goal

pub returns-in-Ok-clause-rows : goal.returns-in-Ok-clause-rows
returns-in-Ok-clause-rows c =
    let place = rw c.deref.ensures.value at c.in-Ok.ensures.there in
    set_split c.args.told.now.items c.in-Ok.at c.args.row place.within ∙ sym (place.gives_way (c.args.row ∷ []))
