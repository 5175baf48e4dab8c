use Rattle.std.proofs.Common.{◌≤◌, [], length}
use Rattle.song_db.proofs.Indexed.{goes_once, has_gone, none_done, partly_last, partly_next}
use Rattle.song_db.proofs.value_index.ValueIndex.take_row.Goals as goal

pub loop-at-init : goal.loop-at-init
loop-at-init c = λ rows rising is. none_done c.args.row.now.uri [] rows c.args.self.now is

pub loop-at-preserved : goal.loop-at-preserved
loop-at-preserved c = λ rows rising is. partly_next c.args.row.now.tags c.loop-at.at
    (record { tag = c.at-tag.result.0; text = c.at-tag.result.1.now }) c.args.row.now.uri [] rows c.loop-at.self
    c.take.new.self (rw c.tags-tags.ensures at c.at-tag.ensures) rising (goes_once c.args.row.now.uri)
    (c.loop-at.invariant rows rising is) (rw c.uri.ensures.text at c.take.ensures)

pub returns : goal.returns
returns c = λ rows rising found is.
    let past : length c.args.row.now.tags ≤ c.loop-at.at = rw (← c.tags-tags.ensures, ← c.len-at-end.ensures.len) c.loop-at-test.false in
    has_gone c.args.row.now rows c.loop-at.self rising found (partly_last c.args.row.now.tags c.loop-at.at c.args.row.now.uri
    [] rows c.loop-at.self past (c.loop-at.invariant rows rising is))
