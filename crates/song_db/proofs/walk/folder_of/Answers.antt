use Rattle.std.proofs.Common.{◌≡◌, ◌<◌, false, take, sym, refl, arith}
use Rattle.std.proofs.lemmas.Map.Keys.{sorted_tail}
use Rattle.song_db.specs.Place.{is_below}
use Rattle.song_db.specs.Replaced.{by_text}
use Rattle.song_db.specs.Row.{row_uri}
use Rattle.song_db.specs.Walk.{shared}
use Rattle.song_db.proofs.Opened.{none_behind, none_past}
use Rattle.song_db.proofs.walk.folder_of.Goals as goal

pub returns-then-common-end : goal.returns-then-common-end
returns-then-common-end c =
    let here : is_below (take c.args.end c.args.row.now.uri) c.args.row.now.uri ≡ false =
    sym (rw (c.as_bytes.ensures.value, c.uri-path.ensures.text) at c.if-ends_a_part.ensures.part) in
    let short : shared c.args.row.now.uri c.args.rest.now < c.args.end = let told = c.requires.common in omega arith in
    rw (here, none_behind c.args.row.now c.args.rest.now c.args.end c.requires.rising c.requires.within short) refl

pub returns-then-goes_on_behind : goal.returns-then-goes_on_behind
returns-then-goes_on_behind c =
    let text = c.uri-path.ensures.text in
    let past = rw (c.as_bytes-2.ensures.value, text) at c.goes_on_behind.ensures c.if-goes_on_behind.true in
    rw (none_past c.args.row.now c.args.rest.now c.args.end c.requires.rising past.0 past.1) refl

pub folder_among-requires : goal.folder_among-requires
folder_among-requires c = sorted_tail (by_text row_uri) c.args.row.now c.args.rest.now c.requires.rising
