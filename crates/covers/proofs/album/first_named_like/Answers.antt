use Rattle.std.proofs.Common.{sym, ◌∙◌}
use Rattle.covers.specs.AlbumNames.{album_names, is_named_like}
use Rattle.covers.proofs.FirstNames.{name_found, name_passed, names_begin, names_end}
use Rattle.covers.proofs.album.first_named_like.Goals as goal

pub loop-name-init : goal.loop-name-init
loop-name-init c = names_begin is_named_like c.args.entries.now c.album_names-name-items.result.now album_names c.album_names-name-items.ensures

pub returns-then-is_some : goal.returns-then-is_some
returns-then-is_some c =
    name_found is_named_like c.args.entries.now c.album_names-name-items.result.now c.loop-name.name-index _ c.named_like-found.result _
    c.loop-name-test.true c.named_like-found.ensures (sym c.is_some.ensures ∙ c.if-is_some.true) c.loop-name.invariant

pub loop-name-preserved : goal.loop-name-preserved
loop-name-preserved c =
    name_passed is_named_like c.args.entries.now c.album_names-name-items.result.now c.loop-name.name-index _ c.named_like-found.result _
    c.loop-name-test.true c.named_like-found.ensures (sym c.is_some.ensures ∙ c.if-is_some.false) c.loop-name.invariant

pub returns : goal.returns
returns c = names_end is_named_like c.args.entries.now c.album_names-name-items.result.now c.loop-name.name-index _ c.loop-name-test.false
    c.loop-name.invariant
