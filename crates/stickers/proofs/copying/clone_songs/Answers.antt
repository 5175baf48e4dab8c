use Rattle.std.proofs.Common.{◌≡◌, ◌∙◌, [], ◌∷◌, string_bytes, append_assoc, refl, sym, ap, subst}
use Rattle.stickers.specs.ByName.{by_name}
use Rattle.stickers.specs.Named.{IsRising, with_name}
use Rattle.stickers.proofs.Added.{added_last}
use Rattle.stickers.proofs.ByName.{insert_entry-by_name, sorted-by_name}
use Rattle.stickers.proofs.copying.clone_songs.Goals as goal

-- one more stands behind those that are copied
pub loop-uri-preserved : goal.loop-uri-preserved
loop-uri-preserved c =
    let front = by_name c.loop-uri.copy.entries in
    let text = string_bytes c.in-Some.uri.now in
    let it = c.in-Some.song.now in
    let rest = c.next.new.self in
    let steps : c.loop-uri.uri-iterator ≡ (c.in-Some.uri.now, it) ∷ rest = c.in-Some.ensures.steps in
    let whole = rw steps at c.loop-uri.invariant in
    let rising = sorted-by_name c.args.songs.now.entries c.iter-uri-items.ensures.ordered in
    let same : with_name front (string_bytes c.in_ok-from_str.field-0) c.in_ok-song.song ≡ with_name front text it =
    rw (c.in_ok-from_str.ensures.ok, c.as_str.ensures.value, c.in_ok-song.ensures) refl in
    let made = ap by_name c.in_ok-insert.ensures.entries
    ∙ insert_entry-by_name c.loop-uri.copy.entries c.in_ok-from_str.field-0 c.in_ok-song.song ∙ same in
    rw (made ∙ added_last front (by_name rest) text it (subst IsRising (sym whole) rising))
    (append_assoc front ((text, it) ∷ []) (by_name rest) ∙ whole)

pub loop-uri-preserved-in_ok-insert : goal.loop-uri-preserved-in_ok-insert
loop-uri-preserved-in_ok-insert c =
    let front = by_name c.loop-uri.copy.entries in
    let text = string_bytes c.in-Some.uri.now in
    let it = c.in-Some.song.now in
    let rest = c.next.new.self in
    let steps : c.loop-uri.uri-iterator ≡ (c.in-Some.uri.now, it) ∷ rest = c.in-Some.ensures.steps in
    let whole = rw steps at c.loop-uri.invariant in
    let rising = sorted-by_name c.args.songs.now.entries c.iter-uri-items.ensures.ordered in
    let same : with_name front (string_bytes c.in_ok-from_str.field-0) c.in_ok-song.song ≡ with_name front text it =
    rw (c.in_ok-from_str.ensures.ok, c.as_str.ensures.value, c.in_ok-song.ensures) refl in
    let made = ap by_name c.in_ok-insert.ensures.entries
    ∙ insert_entry-by_name c.loop-uri.copy.entries c.in_ok-from_str.field-0 c.in_ok-song.song ∙ same in
    rw (made ∙ added_last front (by_name rest) text it (subst IsRising (sym whole) rising))
    (append_assoc front ((text, it) ∷ []) (by_name rest) ∙ whole)
