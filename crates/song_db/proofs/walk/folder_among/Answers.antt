use Rattle.std.proofs.Common.{◌≡◌, ◌-◌, ◌<◌, true, false, length, get_or, ap, sym, refl, ◌∙◌, arith}
use Rattle.std.proofs.lemmas.List.{get_or_default}
use Rattle.std.specs.List.{list_any}
use Rattle.song_db.specs.Place.{is_below}
use Rattle.song_db.specs.Row.{Row}
use Rattle.song_db.proofs.Opened.{any_at, none_from, text_below}
use Rattle.song_db.proofs.Rising.{no_row}
use Rattle.song_db.proofs.walk.folder_among.Goals as goal

pub returns-then-at-rows : goal.returns-then-at-rows
returns-then-at-rows c = rw (none_from c.args.rows.now c.args.folder.now c.slash_point-at.result c.requires
    c.slash_point-at.ensures.split (λ inside. absurd (omega arith))) refl

pub range-requires-clause-end_boundary : goal.range-requires-clause-end_boundary
range-requires-clause-end_boundary c =
    let below : is_below c.args.folder.now c.uri-path.result.now ≡ true = sym (rw c.as_bytes.ensures.value at c.if-is_below.ensures) in
    let start = text_below c.args.folder.now c.uri-path.result.now below in
    let within : length c.args.folder.now < length c.uri-path.result.now = start.within in
    let slash : get_or c.uri-path.result.now (length c.args.folder.now) 0 ≡ 47 = start.slash in
    (omega arith, λ under high. omega arith)

pub returns-then-is_below : goal.returns-then-is_below
returns-then-is_below c =
    let below : is_below c.args.folder.now c.uri-path.result.now ≡ true = sym (rw c.as_bytes.ensures.value at c.if-is_below.ensures) in
    let start = text_below c.args.folder.now c.uri-path.result.now below in
    let inside : c.slash_point-at.result < length c.args.rows.now = let bound = c.slash_point-at.ensures.bound in omega arith in
    let here : is_below c.args.folder.now (get_or c.args.rows.now c.slash_point-at.result c.index-rows-at.result).uri ≡ true =
    ap (λ (r : Row). is_below c.args.folder.now r.uri) (sym c.index-rows-at.is) ∙ rw c.uri-path.ensures.text at below in
    let there : list_any (λ row. is_below c.args.folder.now row.uri) c.args.rows.now ≡ true =
    any_at (λ (row : Row). is_below c.args.folder.now row.uri) c.args.rows.now c.slash_point-at.result c.index-rows-at.result inside here in
    let end : length c.args.folder.now - 0 ≡ length c.args.folder.now = omega arith in
    rw (there, c.range.ensures.value, end, start.front) refl

pub returns : goal.returns
returns c =
    let other : is_below c.args.folder.now c.uri-path.result.now ≡ false = sym (rw c.as_bytes.ensures.value at c.if-is_below.ensures) in
    rw (none_from c.args.rows.now c.args.folder.now c.slash_point-at.result c.requires c.slash_point-at.ensures.split (λ inside.
    ap (λ (r : Row). is_below c.args.folder.now r.uri) (get_or_default c.args.rows.now c.slash_point-at.result no_row
    c.index-rows-at.result inside ∙ sym c.index-rows-at.is) ∙ rw c.uri-path.ensures.text at other)) refl
