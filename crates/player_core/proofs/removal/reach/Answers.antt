use Rattle.std.proofs.Common.{ap, length, min, sym, ◌∙◌}
use Rattle.std.proofs.lemmas.Bool.{eqb-true}
use Rattle.player_core.proofs.Others.{reaches-block}
use Rattle.player_core.proofs.removal.reach.Goals as goal

pub returns : goal.returns
returns c = reaches-block c.args.block c.args.dropped.now c.args.entries.now c.min.result c.min-end.result
    (eqb-true (length c.args.dropped.now) 0 (sym c.is_empty.ensures ∙ c.if-not-is_empty.false)) c.min.ensures
    (c.min-end.ensures ∙ ap (λ n. min c.args.block.end n) c.len-end.ensures.len)
