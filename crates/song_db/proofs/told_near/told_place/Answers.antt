use Rattle.std.proofs.Common.{refl, sym, ap, ◌∙◌, arith}
use Rattle.std.specs.Ordering.{is_eq}
use Rattle.std.proofs.lemmas.Map.Text.{is_eq-slice_cmp}
use Rattle.song_db.specs.Told.{told_key}
use Rattle.song_db.proofs.Replaced.{place_of, place_for_end, place_for_other}
use Rattle.song_db.proofs.told_near.told_place.Goals as goal
use Rattle.song_db.proofs.told_near.told_place.Goals.{else-at-told-via-then-at-told+else-is_eq, else-at-told-via-else-at-told}

pub returns-then-is_eq-clause-there : goal.returns-then-is_eq-clause-there
returns-then-is_eq-clause-there g c = place_of g.T.ToldSong.key (told_key c.args.row.now) (g.T.ToldSong.key c.index-told-at.result)
    c.args.told.now c.told_point-at.result c.index-told-at.result c.told_point-at.ensures.split (omega arith) c.index-told-at.is refl
    (sym c.if-is_eq.true ∙ c.is_eq.ensures ∙ ap is_eq c.compare.ensures
    ∙ is_eq-slice_cmp (g.T.ToldSong.key c.index-told-at.result) (told_key c.args.row.now))

pub returns-clause-absent : goal.returns-clause-absent
returns-clause-absent g c = elim c.else-at-told.branch [
  | else-at-told-via-then-at-told+else-is_eq w ↦ place_for_other g.T.ToldSong.key (told_key c.args.row.now)
      (g.T.ToldSong.key w.index-told-at.result) c.args.told.now c.told_point-at.result w.index-told-at.result
      c.told_point-at.ensures.split (omega arith) w.index-told-at.is refl
      (sym w.if-is_eq.false ∙ w.is_eq.ensures ∙ ap is_eq w.compare.ensures
      ∙ is_eq-slice_cmp (g.T.ToldSong.key w.index-told-at.result) (told_key c.args.row.now))
  | else-at-told-via-else-at-told w ↦ place_for_end g.T.ToldSong.key (told_key c.args.row.now) c.args.told.now c.told_point-at.result
      c.told_point-at.ensures.split (omega arith) (omega arith)
]
