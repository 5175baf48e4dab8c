use Rattle.std.proofs.Common.{sym, ap₂, ◌∙◌}
use Rattle.song_db.specs.Told.{album_key}
use Rattle.song_db.proofs.Rising.{texts}
use Rattle.song_db.proofs.ToldKeys.{albums_decide, discs_decide, names_decide, tracks_decide}
use Rattle.song_db.proofs.told.compare_songs.Goals as goal

pub returns-then-not-is_eq : goal.returns-then-not-is_eq
returns-then-not-is_eq c =
    let albums = c.compare_albums-order.ensures ∙ ap₂ (λ x y. texts (album_key x) (album_key y)) c.tag.ensures c.tag-2.ensures in
    albums_decide c.args.left.now c.args.right.now c.args.left_name.now c.args.right_name.now _ albums
    (sym c.is_eq.ensures ∙ c.if-not-is_eq.true)

pub returns-then-not-is_eq-2 : goal.returns-then-not-is_eq-2
returns-then-not-is_eq-2 c =
    let albums = c.compare_albums-order.ensures ∙ ap₂ (λ x y. texts (album_key x) (album_key y)) c.tag.ensures c.tag-2.ensures in
    discs_decide c.args.left.now c.args.right.now c.args.left_name.now c.args.right_name.now _ _ albums
    (sym c.is_eq.ensures ∙ c.if-not-is_eq.false) c.compare_numbers-order.ensures (sym c.is_eq-2.ensures ∙ c.if-not-is_eq-2.true)

pub returns-then-not-is_eq-3 : goal.returns-then-not-is_eq-3
returns-then-not-is_eq-3 c =
    let albums = c.compare_albums-order.ensures ∙ ap₂ (λ x y. texts (album_key x) (album_key y)) c.tag.ensures c.tag-2.ensures in
    tracks_decide c.args.left.now c.args.right.now c.args.left_name.now c.args.right_name.now _ _ _ albums
    (sym c.is_eq.ensures ∙ c.if-not-is_eq.false) c.compare_numbers-order.ensures (sym c.is_eq-2.ensures ∙ c.if-not-is_eq-2.false)
    c.compare_numbers-order-2.ensures (sym c.is_eq-3.ensures ∙ c.if-not-is_eq-3.true)

pub returns : goal.returns
returns c =
    let albums = c.compare_albums-order.ensures ∙ ap₂ (λ x y. texts (album_key x) (album_key y)) c.tag.ensures c.tag-2.ensures in
    c.compare_texts.ensures
    ∙ names_decide c.args.left.now c.args.right.now c.args.left_name.now c.args.right_name.now _ _ _ albums
    (sym c.is_eq.ensures ∙ c.if-not-is_eq.false) c.compare_numbers-order.ensures (sym c.is_eq-2.ensures ∙ c.if-not-is_eq-2.false)
    c.compare_numbers-order-2.ensures (sym c.is_eq-3.ensures ∙ c.if-not-is_eq-3.false)
