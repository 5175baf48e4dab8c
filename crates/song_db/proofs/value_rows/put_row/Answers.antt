use Rattle.std.proofs.Common.{◌≡◌, true, sym, ◌∙◌}
use Rattle.song_db.specs.Last.{ends_before}
use Rattle.song_db.proofs.Groups.{last_replaced, set_replaced}
use Rattle.song_db.proofs.value_rows.put_row.Goals as goal

pub returns-then-ends_before-clause-ok : goal.returns-then-ends_before-clause-ok
returns-then-ends_before-clause-ok c =
    let before : ends_before c.args.rows.now.items c.args.row.uri ≡ true = rw (c.uri.ensures.text, c.deref.ensures.value) at
    (sym c.ends_before.ensures ∙ c.if-ends_before.true) in
    c.in_ok-push.ensures.items ∙ sym (last_replaced c.args.rows.now.items c.args.row c.requires before)

pub returns-in-Ok-clause-ok : goal.returns-in-Ok-clause-ok
returns-in-Ok-clause-ok c = set_replaced c.args.rows.now.items c.args.row c.in-Ok.at
    (rw (c.uri-2.ensures.text, c.deref-2.ensures.value) at c.in-Ok.ensures.there)
