use Rattle.std.proofs.Common.{◌≡◌, ◌∙◌, length, sym, ap, arith}
use Rattle.std.proofs.lemmas.List.{length-map}
use Rattle.play_queue.specs.Shown.{shown}
use Rattle.play_queue.specs.declared.entry.Entry.{Entry}
use Rattle.state_codec.specs.OpsLists.{uris_of}
use Rattle.state_codec.proofs.ReplaceLaws.{same_all, same_apart, same_more, same_not}
use Rattle.state_codec.proofs.saved.replacing.are_uris_of.Goals as goal

-- lists of different lengths
pub returns-then-uris-len : goal.returns-then-uris-len
returns-then-uris-len c =
    let entries = c.args.entries.now in
    let long : length (uris_of entries) ≡ length entries = length-map entries (λ (entry : Entry). entry.uri) in
    sym (same_not c.args.uris.now (uris_of entries) (λ same. omega (arith, ap length same, long, c.if-uris-len.true)))

pub returns-then-not-is_uri_of : goal.returns-then-not-is_uri_of
returns-then-not-is_uri_of c =
    sym (same_apart c.args.uris.now c.args.entries.now c.loop-at.at c.index-uris-at.result (shown c.at.result) (omega arith)
    (omega arith) c.index-uris-at.is (sym (c.at.ensures (shown c.at.result))) (sym c.is_uri_of.ensures ∙ c.if-not-is_uri_of.true))

-- one more place
pub loop-at-preserved : goal.loop-at-preserved
loop-at-preserved c =
    same_more c.args.uris.now c.args.entries.now c.loop-at.at c.index-uris-at.result (shown c.at.result) (omega arith)
    (omega arith) c.index-uris-at.is (sym (c.at.ensures (shown c.at.result))) (sym c.is_uri_of.ensures ∙ c.if-not-is_uri_of.false) c.loop-at.invariant

-- all places
pub returns : goal.returns
returns c =
    let entries = c.args.entries.now in
    let long : length (uris_of entries) ≡ length entries = length-map entries (λ (entry : Entry). entry.uri) in
    sym (same_all c.args.uris.now (uris_of entries) (omega arith) (λ k within. c.loop-at.invariant k (omega arith)))
