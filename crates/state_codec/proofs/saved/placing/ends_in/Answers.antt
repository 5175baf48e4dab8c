use Rattle.std.proofs.Common.{◌≡◌, Bool, false, not, ap, sym, ◌∙◌, nat_eq, arith}
use Rattle.std.specs.Prelude.{slice_index_or, length, ◌-◌}
use Rattle.std.proofs.lemmas.Bool.{ne_eqb}
use Rattle.state_codec.proofs.PlaceLaws.{ends_last, ends_nowhere}
use Rattle.state_codec.proofs.saved.placing.ends_in.Goals as goal

pub returns-then-id-last : goal.returns-then-id-last
returns-then-id-last c =
    ap not c.stands_in.ensures ∙ sym (ends_last c.args.id c.args.ids.now (omega arith) c.if-id-last.true)

pub returns-else-id-last : goal.returns-else-id-last
returns-else-id-last c =
    let ids = c.args.ids.now in
    let other : nat_eq c.args.id (slice_index_or ids (length ids - 1) 0) ≡ false = ne_eqb _ _ c.if-id-last.false in
    other ∙ sym (ends_nowhere c.args.id ids (omega arith) c.if-id-last.false)
