use Rattle.std.proofs.Common.{◌≡◌, length, take, slice_index_or, ap, subst, ◌∙◌, sym, arith}
use Rattle.std.specs.Prelude.{IsTrue}
use Rattle.std.specs.List.{flat_map}
use Rattle.std.proofs.lemmas.List.{length-append, length-take}
use Rattle.play_queue.specs.Shown.{shown}
use Rattle.play_queue.specs.declared.entry.Entry.{Entry}
use Rattle.song_db.specs.Change.{has_uri}
use Rattle.state_codec.specs.Spelling.{entry_bytes}
use Rattle.state_codec.proofs.RoomLaws.{more_items}
use Rattle.state_codec.proofs.SnapshotLaws.{thirteen_each}
use Rattle.state_codec.proofs.writing.saved.put_entries.Goals as goal

pub row_number-requires : goal.row_number-requires
row_number-requires c =
    let here : slice_index_or c.args.entries.now c.loop-at.at (shown c.at-entry.result) ≡ shown c.at-entry.result =
    c.at-entry.ensures (shown c.at-entry.result) in
    subst (λ (entry : Entry). IsTrue (has_uri c.args.songs.now entry.uri)) here
    (c.requires.rows c.loop-at.at (shown c.at-entry.result) (omega arith)).has_row

pub put_entry-requires-clause-room : goal.put_entry-requires-clause-room
put_entry-requires-clause-room c =
    let i = c.loop-at.at in
    let songs = c.args.songs.now in
    let front = take i c.args.entries.now in
    omega (
      arith,
      c.requires.room,
      c.loop-at.out.ok.0,
      c.args.out.now.ok.0,
      c.loop-at.invariant.1,
      ap length c.loop-at.invariant.0,
      length-append c.args.out.now.items (flat_map (entry_bytes songs) front),
      thirteen_each songs front,
      length-take i c.args.entries.now,
    )

pub loop-at-preserved : goal.loop-at-preserved
loop-at-preserved c = (
  c.put_entry.ensures.items
      ∙ more_items (entry_bytes c.args.songs.now) c.args.out.now.items c.loop-at.out.items c.args.entries.now c.loop-at.at
      (shown c.at-entry.result) (omega arith) (sym (c.at-entry.ensures (shown c.at-entry.result))) c.loop-at.invariant.0,
  c.put_entry.ensures.capacity ∙ c.loop-at.invariant.1,
)
