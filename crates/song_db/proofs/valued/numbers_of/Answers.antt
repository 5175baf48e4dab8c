use Rattle.std.proofs.Common.{◌≡◌, Some, None, ap, sym, ◌∙◌, arith}
use Rattle.song_db.specs.Query.{number_at}
use Rattle.song_db.proofs.IndexedValues.{number_left, number_more, numbers_told}
use Rattle.song_db.proofs.valued.numbers_of.Goals as goal
use Rattle.song_db.proofs.valued.numbers_of.Goals.{in-Some+in_ok-push, in_default}

pub loop-row-preserved : goal.loop-row-preserved
loop-row-preserved c = elim c.match-position_near.branch [
  | in-Some+in_ok-push w ↦
      let found : Some w.in-Some.number ≡ number_at c.args.rows.now c.row-item.result.uri
      = sym w.in-Some.is ∙ c.position_near.ensures.number ∙ ap (number_at c.args.rows.now) c.uri.ensures.text in
      rw w.numbers-is (w.in_ok-push.ensures.items ∙ number_more c.args.rows.now c.args.some.now c.loop-row.row-index c.row-item.result
      c.loop-row.numbers.items w.in-Some.number (omega arith) c.row-item.is found c.loop-row.invariant)
  | in_default w ↦
      let none : None ≡ number_at c.args.rows.now c.row-item.result.uri
      = sym w.in_default.is ∙ c.position_near.ensures.number ∙ ap (number_at c.args.rows.now) c.uri.ensures.text in
      rw w.numbers-is (number_left c.args.rows.now c.args.some.now c.loop-row.row-index c.row-item.result
      c.loop-row.numbers.items (omega arith) c.row-item.is none c.loop-row.invariant)
]

pub returns : goal.returns
returns c = λ passes is. numbers_told c.args.rows.now c.args.some.now passes c.loop-row.row-index c.loop-row.numbers.items
    c.requires.rising c.loop-row-test.false c.loop-row.invariant is
