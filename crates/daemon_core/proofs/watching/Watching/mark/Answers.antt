use Rattle.std.proofs.Common.{◌≡◌, [], sym, ap, ◌∙◌}
use Rattle.std.proofs.lemmas.Bool.{eqb-true}
use Rattle.std.specs.List.{list_all}
use Rattle.command_text.proofs.LineLoops.{no_items}
use Rattle.idle_masks.specs.Subsystems.{is_empty}
use Rattle.idle_masks.specs.Watched.{due, marked_some}
use Rattle.daemon_core.specs.Pending.{with_news}
use Rattle.daemon_core.proofs.PendingLaws.{news_marked}
use Rattle.daemon_core.proofs.RoomLaws.{none_news}
use Rattle.daemon_core.proofs.watching.Watching.mark.Goals as goal

pub returns-then-is_empty-2-clause-marked : goal.returns-then-is_empty-2-clause-marked
returns-then-is_empty-2-clause-marked c =
    let nobody : c.args.notified.now ≡ [] =
    no_items c.args.notified.now (eqb-true _ _ (sym c.is_empty-then-is_empty.ensures ∙ c.if-is_empty-2.true)) in
    sym (none_news c.args.self.now c.args.changed c.args.notified.now (sym c.is_empty.ensures ∙ c.if-is_empty.true) nobody)

pub returns-then-is_empty-2-clause-value : goal.returns-then-is_empty-2-clause-value
returns-then-is_empty-2-clause-value c =
    sym (ap (list_all (λ w. is_empty (due w)))
    (sym (returns-then-is_empty-2-clause-marked c) ∙ sym c.self.view_is)
    ∙ c.self.invariant c.if-self.true)

pub returns-clause-marked : goal.returns-clause-marked
returns-clause-marked c =
    c.mark_some.ensures
    ∙ (λ i. marked_some (c.mark.ensures i) c.args.notified.now (c.only.ensures i))
    ∙ news_marked c.self.inside.watch c.args.changed c.args.notified.now
    ∙ ap (with_news c.args.changed c.args.notified.now) c.self.view_is

pub returns-clause-value : goal.returns-clause-value
returns-clause-value c =
    c.is_none_due-self-inside.ensures ∙ ap (list_all (λ w. is_empty (due w))) (c.as_slice.ensures.all ∙ returns-clause-marked c)
