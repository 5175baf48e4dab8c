use Rattle.std.proofs.Common.{◌≡◌, sym, arith}
use Rattle.std.proofs.lemmas.List.{take-append-drop}
use Rattle.play_queue.specs.Entries.{deleted}
use Rattle.play_queue.proofs.Ruling.{ruled-deleted, ruled-itself}
use Rattle.play_queue.proofs.Sound.{sound-deleted}
use Rattle.play_queue.proofs.queue.Queue.delete_range.Goals as goal

-- what stood from the end of the block on has moved up
pub returns-then-start-end-clause-ok : goal.returns-then-start-end-clause-ok
returns-then-start-end-clause-ok c =
    let old = c.self.inside.entries in
    let fits = rw (← c.self.view_is) at c.in_ok-check_range.ensures.fits in
    rw (← c.self.view_is, c.delete-self-inside.ensures.entries, c.delete-self-inside.ensures.version)
    (ruled-deleted (record { entries = old; version = c.self.inside.version; next_id = c.self.inside.next_id }) c.args.start c.args.end
    c.self.invariant.own_ids c.if-start-end.true fits.within)

pub returns-else-start-end-clause-ok : goal.returns-else-start-end-clause-ok
returns-else-start-end-clause-ok c =
    let forward = c.in_ok-check_range.ensures.fits.forward in
    let none : c.args.start ≡ c.args.end = omega (arith, forward) in
    let itself : deleted c.args.self.now.entries c.args.start c.args.end ≡ c.args.self.now.entries =
    rw none (take-append-drop c.args.end c.args.self.now.entries) in
    sym (ruled-itself c.args.self.now _ itself)

pub invariant_of-self : goal.invariant_of-self
invariant_of-self c =
    let old = c.self.inside.entries in
    let fits = rw (← c.self.view_is) at c.in_ok-check_range.ensures.fits in
    rw (c.delete-self-inside.ensures.entries, c.delete-self-inside.ensures.version)
    (sound-deleted (record { entries = old; version = c.self.inside.version; next_id = c.self.inside.next_id }) c.self.invariant
    c.args.start c.args.end fits.forward fits.within)
