use Rattle.std.proofs.Common.{◌≡◌, ◌∙◌, [], sym, ap, arith}
use Rattle.play_queue.specs.Queue.{ruled}
use Rattle.play_queue.proofs.Blocks.{moved-up, moved-down, moved-none, moved-back}
use Rattle.play_queue.proofs.Ruling.{ruled-itself}
use Rattle.play_queue.proofs.queue.Queue.move_range.Goals as goal

pub returns-then-to-start-clause-ok : goal.returns-then-to-start-clause-ok
returns-then-to-start-clause-ok c =
    let fits = c.in_ok-check_move.ensures.fits in
    c.exchange.ensures ∙ ap (λ entries. ruled c.args.self.now entries [])
    (sym (moved-up c.args.self.now.entries c.args.start c.args.end c.args.to c.if-to-start.true fits.forward fits.within))

pub returns-then-start-to-clause-ok : goal.returns-then-start-to-clause-ok
returns-then-start-to-clause-ok c =
    let fits = c.in_ok-check_move.ensures.fits in
    c.exchange-then-start-to.ensures ∙ ap (λ entries. ruled c.args.self.now entries [])
    (sym (moved-down c.args.self.now.entries c.args.start c.args.end c.args.to c.if-start-to.true fits.forward fits.within fits.place))

-- a block that stays where it is
pub returns-else-start-to-clause-ok : goal.returns-else-start-to-clause-ok
returns-else-start-to-clause-ok c =
    let fits = c.in_ok-check_move.ensures.fits in
    let same : c.args.to ≡ c.args.start = omega arith in
    sym (ruled-itself c.args.self.now _ (rw same (moved-back c.args.self.now.entries c.args.start c.args.end fits.forward fits.within)))

-- an empty block
pub returns-else-start-end-clause-ok : goal.returns-else-start-end-clause-ok
returns-else-start-end-clause-ok c =
    let forward = c.in_ok-check_move.ensures.fits.forward in
    let none : c.args.start ≡ c.args.end = omega (arith, forward) in
    sym (ruled-itself c.args.self.now _ (rw none (moved-none c.args.self.now.entries c.args.end c.args.to)))

pub overflow_add-to : goal.overflow_add-to
overflow_add-to c =
    let fits = c.in_ok-check_move.ensures.fits in
    omega (arith, fits.few, fits.place, fits.within)
