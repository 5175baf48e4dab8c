use Rattle.std.proofs.Common.{◌≤◌, [], ◌∷◌, length}
use Rattle.song_db.proofs.Indexed.{comes_once, has_come, none_done, partly_last, partly_next}
use Rattle.song_db.proofs.value_index.ValueIndex.put_row.Goals as goal

pub loop-at-init : goal.loop-at-init
loop-at-init c = λ rows rising is. none_done c.args.row.now.uri (c.args.row.now ∷ []) rows c.args.self.now is

pub loop-at-preserved : goal.loop-at-preserved
loop-at-preserved c = λ rows rising is. partly_next c.args.row.now.tags c.loop-at.at
    (record { tag = c.at-tag.result.0; text = c.at-tag.result.1.now }) c.args.row.now.uri (c.args.row.now ∷ []) rows c.loop-at.self
    c.put.new.self (rw c.tags-tags.ensures at c.at-tag.ensures) rising (comes_once c.args.row.now) (c.loop-at.invariant rows rising is)
    (rw c.in_ok-copy.ensures at c.in_ok-put.ensures)

pub returns : goal.returns
returns c = λ rows rising none is.
    let past : length c.args.row.now.tags ≤ c.loop-at.at = rw (← c.tags-tags.ensures, ← c.len-at-end.ensures.len) c.loop-at-test.false in
    has_come c.args.row.now rows c.loop-at.self rising none (partly_last c.args.row.now.tags c.loop-at.at c.args.row.now.uri
    (c.args.row.now ∷ []) rows c.loop-at.self past (c.loop-at.invariant rows rising is))
