use Rattle.std.proofs.Common.{◌≡◌, ◌+◌, ◌++◌, length, drop, sym, ap, ◌∙◌, arith}
use Rattle.std.specs.Option.{option_to_list}
use Rattle.std.proofs.lemmas.List.{append_assoc}
use Rattle.std.proofs.lemmas.Slice.{between_to_end}
use Rattle.state_codec.specs.RowSteps.{changed_by, changed_first}
use Rattle.state_codec.proofs.BatchSteps.{changed_step}
use Rattle.state_codec.proofs.saved.batch.changed_by.Goals as goal

pub loop-at-preserved : goal.loop-at-preserved
loop-at-preserved c =
    let more = drop (c.loop-at.at + 1) c.args.changes.now in
    let first = option_to_list (changed_first c.args.songs.now c.index-changes-at.result more) in
    let made : c.push_some.new.uris.items ≡ c.loop-at.uris.items ++ first =
    c.in_ok-push_some.ensures ∙ ap (λ o. c.loop-at.uris.items ++ option_to_list o)
    (rw (between_to_end c.args.changes.now (c.loop-at.at + 1) (length c.args.changes.now) (omega arith))
    at c.changed_first-uri.ensures) in
    ap (λ items. items ++ changed_by c.args.songs.now more) made
    ∙ append_assoc c.loop-at.uris.items first (changed_by c.args.songs.now more)
    ∙ ap (λ rest. c.loop-at.uris.items ++ rest)
    (sym (changed_step c.args.songs.now c.args.changes.now c.loop-at.at c.index-changes-at.result c.loop-at-test.true
    c.index-changes-at.is))
    ∙ c.loop-at.invariant
