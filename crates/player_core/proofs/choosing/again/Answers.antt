use Rattle.std.proofs.Common.{◌≡◌, ◌∙◌, List, Some, None, refl, sym, ap, subst}
use Rattle.play_queue.specs.declared.entry.Entry.{Entry}
use Rattle.player_core.specs.declared.choice.Choice.{Choice}
use Rattle.player_core.specs.Staying.{staying}
use Rattle.player_core.specs.Choice.{least, new_round, nothing}
use Rattle.player_core.proofs.Leaving.{counted-all}
use Rattle.player_core.proofs.choosing.again.Goals as goal

pub returns-in-Some : goal.returns-in-Some
returns-in-Some c =
    let key = c.args.settings.now.key in
    let order = c.next_order-order.result in
    let all : List Entry = staying c.args.block c.args.dropped.now 0 c.args.entries.now in
    let found : least key order all ≡ Some c.in-Some.id = ap (λ l. least key order l) (sym
    (counted-all 0 c.args.played.now.keys all)) ∙ sym c.least.ensures ∙ c.in-Some.is in
    let made : Choice = record { id = Some c.in-Some.id; order = Some order } in
    subst (λ n. made ≡ new_round n (least key n all)) c.next_order-order.ensures (rw found refl)

pub returns-in-None : goal.returns-in-None
returns-in-None c =
    let key = c.args.settings.now.key in
    let order = c.next_order-order.result in
    let all : List Entry = staying c.args.block c.args.dropped.now 0 c.args.entries.now in
    let found : least key order all ≡ None = ap (λ l. least key order l) (sym (counted-all 0 c.args.played.now.keys all))
    ∙ sym c.least.ensures ∙ c.in-None.is in
    subst (λ n. nothing ≡ new_round n (least key n all)) c.next_order-order.ensures (rw found refl)
