use Rattle.std.proofs.Common.{◌≡◌, ◌<◌, [], true, false, not, refl, length, get_or, sym, ap, ◌∙◌, arith}
use Rattle.std.proofs.lemmas.List.{length-map}
use Rattle.std.proofs.lemmas.List.Edits.{length-swap}
use Rattle.play_queue.specs.declared.entry.Entry.{Entry}
use Rattle.play_queue.specs.Entries.{is_among}
use Rattle.play_queue.specs.Songs.{entry_of}
use Rattle.play_queue.proofs.Compacted.{begun_from, taken_from, left_from, all_from}
use Rattle.play_queue.proofs.song_list.SongList.bring_others_forward.Goals as goal
use Rattle.play_queue.proofs.song_list.SongList.bring_others_forward.Goals.{then-not-contains, else-not-contains}

pub loop-at-init : goal.loop-at-init
loop-at-init c =
    let long : length c.args.self.now ≡ length c.self.inside.order.items =
    ap length (sym c.self.view_is) ∙ length-map c.self.inside.order.items (entry_of c.self.inside.songs.entries) in (
      refl,
      omega arith,
      begun_from (λ entry. not (is_among c.args.uris.now entry.uri)) c.args.first c.args.self.now,
    )

pub song-id-requires : goal.song-id-requires
song-id-requires c = omega (arith, c.loop-at.invariant.0, c.loop-at.invariant.1)

pub loop-at-preserved : goal.loop-at-preserved
loop-at-preserved c =
    let test = λ (entry : Entry). not (is_among c.args.uris.now entry.uri) in
    let before = c.args.self.now in
    let now = c.loop-at.self in
    let at = c.loop-at.at in
    let d : Entry = record { id = 0; uri = []; priority = 0; stamp = 0 } in
    let within : at < length now = omega (arith, c.loop-at.invariant.0, c.loop-at.invariant.1) in
    let told : not (is_among c.args.uris.now (get_or now at d).uri) ≡ not (is_among c.args.uris.now c.as_uri.result.now) =
    ap (λ (entry : Entry). not (is_among c.args.uris.now entry.uri)) (c.song-id.ensures d)
    ∙ ap (λ uri. not (is_among c.args.uris.now uri)) (sym c.as_uri.ensures) in
    elim c.if-not-contains.branch [
      | then-not-contains w ↦
          let yes : test (get_or now at d) ≡ true = told ∙ ap not (sym c.contains.ensures ∙ w.if-not-contains.true) in
          rw (w.self-is, w.count-is, w.swap.ensures) (
            length-swap now c.loop-at.count at ∙ c.loop-at.invariant.0,
            c.loop-at.invariant.1,
            taken_from test c.args.first before now c.loop-at.count at d c.loop-at.invariant.2 c.loop-at.auto.at within yes,
          )
      | else-not-contains w ↦
          let no : test (get_or now at d) ≡ false = told ∙ ap not (sym c.contains.ensures ∙ w.if-not-contains.false) in
          rw (w.self-is, w.count-is) (
            c.loop-at.invariant.0,
            c.loop-at.invariant.1,
            left_from test c.args.first before now c.loop-at.count at d c.loop-at.invariant.2 c.loop-at.auto.at within no,
          )
    ]

pub swap-requires-clause-one_in_range : goal.swap-requires-clause-one_in_range
swap-requires-clause-one_in_range c =
    omega (arith, c.loop-at.invariant.0, c.loop-at.invariant.1, c.loop-at.invariant.2.low, c.loop-at.invariant.2.behind.few, c.loop-at.auto.at)

pub swap-requires-clause-other_in_range : goal.swap-requires-clause-other_in_range
swap-requires-clause-other_in_range c = omega (arith, c.loop-at.invariant.0, c.loop-at.invariant.1)

pub overflow_add-count : goal.overflow_add-count
overflow_add-count c = omega (arith, c.loop-at.invariant.2.low, c.loop-at.invariant.2.behind.few, c.loop-at.auto.at)

pub returns-clause-within : goal.returns-clause-within
returns-clause-within c =
    let all = c.loop-at.auto.at-end (omega (arith, c.loop-at.invariant.1)) in
    omega (arith, all, c.loop-at.invariant.0, c.loop-at.invariant.1, c.loop-at.invariant.2.low, c.loop-at.invariant.2.behind.few, c.loop-at.auto.at)

pub returns-clause-others : goal.returns-clause-others
returns-clause-others c =
    let all = c.loop-at.auto.at-end (omega (arith, c.loop-at.invariant.1)) in
    all_from (λ (entry : Entry). not (is_among c.args.uris.now entry.uri)) c.args.first c.args.self.now c.loop-at.self c.loop-at.count
    c.loop-at.at c.loop-at.invariant.2 c.loop-at.auto.at (omega (arith, all, c.loop-at.invariant.0, c.loop-at.invariant.1))
    (omega (arith, c.loop-at.invariant.0))
