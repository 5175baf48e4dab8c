use Rattle.std.proofs.Common.{sym, ◌∙◌}
use Rattle.covers.specs.AlbumNames.{is_named}
use Rattle.covers.proofs.Firsts.{found_at, passed_at, none_left}
use Rattle.covers.proofs.album.named.Goals as goal

pub returns-then-is_named : goal.returns-then-is_named
returns-then-is_named c =
    found_at (is_named c.args.name.now) c.args.entries.now c.loop-entry.entry-index c.entry-item.result _ c.loop-entry-test.true
    c.entry-item.is (sym c.is_named.ensures ∙ c.if-is_named.true) c.loop-entry.invariant

pub loop-entry-preserved : goal.loop-entry-preserved
loop-entry-preserved c =
    passed_at (is_named c.args.name.now) c.args.entries.now c.loop-entry.entry-index c.entry-item.result _ c.loop-entry-test.true
    c.entry-item.is (sym c.is_named.ensures ∙ c.if-is_named.false) c.loop-entry.invariant

pub returns : goal.returns
returns c = none_left (is_named c.args.name.now) c.args.entries.now c.loop-entry.entry-index _ c.loop-entry-test.false c.loop-entry.invariant
