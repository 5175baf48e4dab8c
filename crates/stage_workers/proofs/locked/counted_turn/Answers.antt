use Rattle.std.proofs.Common.{◌+◌, sym, ◌∙◌, ap}
use Rattle.stage_workers.specs.Books.{events_of}
use Rattle.stage_workers.proofs.EntryLaws.{one_counted, turn_counts}
use Rattle.stage_workers.proofs.locked.counted_turn.Goals as goal

pub returns-clause-counted : goal.returns-clause-counted
returns-clause-counted g c = turn_counts c.args.live.now c.turn.new.self c.args.event c.in-Ok.turn c.in-Ok.ensures.step ∙ ap (λ n. n + 1) c.requires.counted
    ∙ sym (one_counted c.args.pass.now.kind c.args.books.now) ∙ ap events_of (sym c.count.ensures.counted)
