use Rattle.std.proofs.Common.{◌≡◌, [], true, not, get_or, sym, ap, ◌∙◌, arith}
use Rattle.play_queue.specs.declared.entry.Entry.{Entry}
use Rattle.play_queue.specs.Entries.{is_among}
use Rattle.play_queue.proofs.Found.{prefix_len-first, prefix_len-all}
use Rattle.play_queue.proofs.rows.before_first.Goals as goal

pub returns-then-contains : goal.returns-then-contains
returns-then-contains c =
    let uris = c.args.uris.now in
    let entries = c.args.entries.now in
    let d : Entry = record { id = 0; uri = []; priority = 0; stamp = 0 } in
    let told : is_among uris (get_or entries c.loop-at.at d).uri ≡ true =
    ap (λ (e : Entry). is_among uris e.uri) (c.at.ensures d) ∙ ap (is_among uris) (sym c.as_uri.ensures) ∙ sym c.contains.ensures
    ∙ c.if-contains.true in
    prefix_len-first (λ (entry : Entry). not (is_among uris entry.uri)) entries c.loop-at.at d (omega (arith, c.len-at-end.ensures.len))
    (λ k e below. ap not (c.loop-at.invariant k e below)) (ap not told)

pub returns : goal.returns
returns c =
    let uris = c.args.uris.now in
    c.len.ensures.len
    ∙ prefix_len-all (λ (entry : Entry). not (is_among uris entry.uri)) c.args.entries.now
    (λ k e below. ap not (c.loop-at.invariant k e (omega (arith, below, c.len-at-end.ensures.len))))
