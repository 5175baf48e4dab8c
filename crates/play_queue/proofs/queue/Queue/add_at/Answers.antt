use Rattle.std.proofs.Common.{◌≡◌, ◌+◌, length, sym, ap, arith}
use Rattle.play_queue.specs.Entries.{added, new_entries}
use Rattle.play_queue.specs.Queue.{QueueState}
use Rattle.play_queue.proofs.Added.{added-none, ruled-added_next, sound-added}
use Rattle.play_queue.proofs.Ruling.{ruled-itself}
use Rattle.play_queue.proofs.queue.Queue.add_at.Goals as goal

pub insert-requires-clause-fresh : goal.insert-requires-clause-fresh
insert-requires-clause-fresh c k d within = (c.self.invariant.entry k d within).id_used

pub returns-in_ok-self-inside-clause-ok : goal.returns-in_ok-self-inside-clause-ok
returns-in_ok-self-inside-clause-ok c =
    let old = c.self.inside.entries in
    let first = c.self.inside.next_id in
    let uris = c.args.uris.items in
    let count : length uris ≡ c.len-count.result = omega arith in
    let fits = rw (← c.self.view_is) at c.in_ok-check_add.ensures.fits in
    rw (← c.self.view_is, c.in_ok-self-inside.ensures.entries, c.in_ok-self-inside.ensures.version)
    (ruled-added_next (record { entries = old; version = c.self.inside.version; next_id = first }) c.args.at uris
    (first + c.len-count.result) c.self.invariant (omega (arith, fits.place)) (omega arith) (omega arith))

pub returns-else-count-gt0-clause-ok : goal.returns-else-count-gt0-clause-ok
returns-else-count-gt0-clause-ok c =
    let old = c.self.inside.entries in
    let first = c.self.inside.next_id in
    let uris = c.args.uris.items in
    let none : length uris ≡ 0 = omega arith in
    let itself = ruled-itself (record { entries = old; version = c.self.inside.version; next_id = first })
    (added old c.args.at (new_entries first uris)) (added-none old c.args.at first uris none) in
    let id : first + length uris ≡ first = omega arith in
    rw (← c.self.view_is, id) (sym (ap (λ (s : QueueState). record s { next_id = first }) itself))

pub invariant_of-self-then-count-gt0 : goal.invariant_of-self-then-count-gt0
invariant_of-self-then-count-gt0 c =
    let old = c.self.inside.entries in
    let first = c.self.inside.next_id in
    let uris = c.args.uris.items in
    let count : length uris ≡ c.len-count.result = omega arith in
    let fits = rw (← c.self.view_is) at c.in_ok-check_add.ensures.fits in
    let next : first + c.len-count.result ≡ first + length uris = omega arith in
    rw (c.in_ok-self-inside.ensures.entries, c.in_ok-self-inside.ensures.version, next)
    (sound-added (record { entries = old; version = c.self.inside.version; next_id = first }) c.args.at uris c.self.invariant
    (omega (arith, fits.place)) (omega (arith, fits.few)) (omega (arith, fits.ids)))
