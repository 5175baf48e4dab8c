use Rattle.std.proofs.Common.{[], ◌∷◌}
use Rattle.song_db.specs.ValueRows.{IsReplacedUnder}
use Rattle.song_db.proofs.GroupMaps.{on_ok}
use Rattle.song_db.proofs.Indexed.{push_replaced_at, set_replaced_at}
use Rattle.song_db.proofs.value_index.ValueIndex.put.Goals as goal

pub returns-in-Some : goal.returns-in-Some
returns-in-Some c = on_ok c.put.result c.put.ensures (λ under. rw (← c.self.view_is) (set_replaced_at c.args.tag c.args.value.now
    c.args.row.uri (c.args.row ∷ []) c.self.inside.tags.items c.in-Some.at c.index_mut.result.now c.put.new.self
    (rw c.deref.ensures.value at c.in-Some.ensures) c.index_mut.ensures.value under))

pub returns-in_ok-push-in-None : goal.returns-in_ok-push-in-None
returns-in_ok-push-in-None c =
    let under : IsReplacedUnder c.args.value.now c.args.row.uri (c.args.row ∷ []) [] c.put-in-None.new.self
    = rw c.new-values.ensures at c.in_ok-put-in-None.ensures in
    rw (c.in_ok-push-in-None.ensures.items, ← c.self.view_is) (push_replaced_at c.args.tag c.args.value.now c.args.row.uri
    (c.args.row ∷ []) c.self.inside.tags.items c.put-in-None.new.self (rw c.deref.ensures.value at c.in-None.ensures) under)
