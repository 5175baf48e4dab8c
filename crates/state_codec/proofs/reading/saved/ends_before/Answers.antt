use Rattle.std.proofs.Common.{◌≡◌, ℕ, suc, ◌-◌, List, [], ◌∷◌, length, Some, ap, ◌∙◌, arith}
use Rattle.std.specs.Prelude.{slice_get}
use Rattle.std.specs.Cmp.Lexicographic.{slice_cmp}
use Rattle.std.specs.Ordering.{nat_cmp, is_lt}
use Rattle.song_db.specs.Last.{ends_before}
use Rattle.song_db.specs.Row.{Row}
use Rattle.state_codec.proofs.reading.saved.ends_before.Goals as goal

last_decides : (rows : List Row) (uri : List ℕ) (last : Row) → Some last ≡ slice_get rows (length rows - 1)
    → is_lt (slice_cmp nat_cmp last.uri uri) ≡ ends_before rows uri
last_decides [] uri last is = absurd (cc)
last_decides (row ∷ []) uri last is = let same : last ≡ row = cc in ap (λ (r : Row). is_lt (slice_cmp nat_cmp r.uri uri)) same
last_decides (row ∷ next ∷ rows) uri last is =
    let one_less : suc (suc (length rows)) - 1 ≡ suc (suc (length rows) - 1) = omega arith in
    last_decides (next ∷ rows) uri last (is ∙ ap (slice_get (row ∷ next ∷ rows)) one_less)

pub returns-in-Some : goal.returns-in-Some
returns-in-Some c = c.lt.ensures ∙ ap (λ (text : List ℕ). is_lt (slice_cmp nat_cmp text c.args.uri.now)) c.uri.ensures.text
    ∙ last_decides c.rows.result.now c.args.uri.now c.in-Some.last.now c.in-Some.ensures.value
    ∙ ap (λ (rows : List Row). ends_before rows c.args.uri.now) c.rows.ensures.rows
