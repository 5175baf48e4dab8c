use Rattle.std.proofs.Common.{◌<◌, ◌++◌, take, length, ap, ◌∙◌, sym, arith}
use Rattle.song_db.specs.Query.{number_at}
use Rattle.state_codec.specs.OpsLists.{uris_of}
use Rattle.std.proofs.lemmas.List.{length-map, length-take}
use Rattle.std.specs.Option.{option_to_list}
use Rattle.play_queue.specs.Shown.{shown}
use Rattle.play_queue.specs.declared.entry.Entry.{Entry}
use Rattle.machine_core.proofs.Lists.Rows.{fewer, one_entry_more}
use Rattle.machine_core.proofs.named.numbers_of_entries.Goals as goal

pub row_numbers-requires : goal.row_numbers-requires
row_numbers-requires c =
    let entries = c.args.entries.now in
    let at = c.loop-at in
    omega (
      arith,
      ap length at.invariant,
      fewer (number_at c.args.songs.now) (uris_of (take at.at entries)),
      length-map (take at.at entries) (λ (entry : Entry). entry.uri),
      length-take at.at entries,
    )

pub loop-at-preserved : goal.loop-at-preserved
loop-at-preserved c =
    let entries = c.args.entries.now in
    let entry = shown c.at.result in
    let within : c.loop-at.at < length entries = omega (arith, c.len-at-end.ensures.len) in
    c.in_ok-push_entry_number.ensures
    ∙ ap (λ numbers. numbers ++ option_to_list (number_at c.args.songs.now entry.uri)) c.loop-at.invariant
    ∙ sym (one_entry_more c.args.songs.now entries c.loop-at.at entry within (c.at.ensures entry))
