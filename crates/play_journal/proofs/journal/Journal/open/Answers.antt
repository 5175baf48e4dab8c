use Rattle.play_journal.proofs.PairLaws.{keeps_pairs, pair_opens}
use Rattle.play_journal.proofs.PlaceLaws.{placed_now}
use Rattle.play_journal.proofs.journal.Journal.open.Goals as goal

pub returns-in-Ok-clause-any_moment : goal.returns-in-Ok-clause-any_moment
returns-in-Ok-clause-any_moment g c = λ a b. rw (c.opened_journal.ensures.a, c.opened_journal.ensures.b)
    (keeps_pairs (g.D.Disk.history c.args.a) (g.D.Disk.history c.args.b) (g.D.Disk.history c.open_files.new.a)
    (g.D.Disk.history c.open_files.new.b) (c.open_files.ensures.kept_a a b) (c.open_files.ensures.kept_b a b))

pub returns-in-Err-clause-any_moment : goal.returns-in-Err-clause-any_moment
returns-in-Err-clause-any_moment g c = λ a b.
    keeps_pairs (g.D.Disk.history c.args.a) (g.D.Disk.history c.args.b) (g.D.Disk.history c.open_files.new.a)
    (g.D.Disk.history c.open_files.new.b) (c.open_files.ensures.kept_a a b) (c.open_files.ensures.kept_b a b)

pub returns-in-Ok-clause-kept : goal.returns-in-Ok-clause-kept
returns-in-Ok-clause-kept g c = λ a b. rw (c.opened_journal.ensures.a, c.opened_journal.ensures.b, c.opened_journal.ensures.content)
    (placed_now g.D.Disk.content g.D.Disk.history c.in-Ok.swapped c.open_files.new.a c.open_files.new.b _ _ _ _ _
    (c.in-Ok.ensures.opened a b).in_use)

pub returns-in-Err-clause-opens : goal.returns-in-Err-clause-opens
returns-in-Err-clause-opens g c = λ a b all.
    let some = all (g.D.Disk.content c.args.a) (g.D.Disk.content c.args.b) (g.met.D.Disk.content_is_image c.args.a a)
    (g.met.D.Disk.content_is_image c.args.b b) in
    pair_opens (g.D.Disk.content c.args.a) (g.D.Disk.content c.args.b) c.in-Err.error some (c.in-Err.ensures.cause a b)
