use Rattle.std.proofs.Common.{◌≡◌, ◌+◌, ◌<◌, ◌∷◌, ℕ, List, drop, length, sym, ap, subst, ◌∙◌, arith, length-drop}
use Rattle.std.proofs.lemmas.List.{at_drop_more}
use Rattle.std.specs.Prelude.{IsTrue}
use Rattle.std.specs.List.{flat_map}
use Rattle.std.proofs.lemmas.List.Concat.{flat_map-cons}
use Rattle.play_queue.specs.Shown.{shown}
use Rattle.play_queue.specs.declared.entry.Entry.{Entry}
use Rattle.song_db.specs.Change.{has_uri}
use Rattle.state_codec.specs.Spelling.{entry_bytes}
use Rattle.state_codec.proofs.PieceLaws.{item_over}
use Rattle.state_codec.proofs.SnapshotLaws.{thirteen_each}
use Rattle.state_codec.proofs.pieces.items.EntriesLeftPart.put_next.Goals as goal

pub row_number-requires : goal.row_number-requires
row_number-requires c =
    let entry : Entry = shown c.at-entry.result in
    subst (λ (e : Entry). IsTrue (has_uri c.self.inside.songs.now e.uri)) (c.at-entry.ensures entry)
    (c.self.invariant.1 c.self.inside.at entry (omega (arith, c.if-self-len.false, c.len.ensures.len))).has_row

pub put_entry-requires-clause-room : goal.put_entry-requires-clause-room
put_entry-requires-clause-room c =
    let rest = drop c.self.inside.at c.self.inside.entries.now in
    omega (
      arith,
      c.requires,
      ap (λ (l : List ℕ). length l) c.self.view_is,
      thirteen_each c.self.inside.songs.now rest,
      length-drop c.self.inside.at c.self.inside.entries.now,
      c.if-self-len.false,
      c.len.ensures.len,
    )

pub returns-clause-moved : goal.returns-clause-moved
returns-clause-moved c =
    let entry : Entry = shown c.at-entry.result in
    let f = entry_bytes c.self.inside.songs.now in
    let at = c.self.inside.at in
    let entries = c.self.inside.entries.now in
    let rest = drop (at + 1) entries in
    let inside : at < length entries = omega (arith, c.if-self-len.false, c.len.ensures.len) in
    let first : drop at entries ≡ entry ∷ rest =
    at_drop_more (λ (l : List Entry). l) entries at entry inside ∙ ap (λ (e : Entry). e ∷ rest) (c.at-entry.ensures entry) in
    item_over c.args.out.now c.put_entry.new.out (f entry) (flat_map f rest) c.args.self.now c.put_entry.ensures.items
    c.put_entry.ensures.capacity
    (sym c.self.view_is ∙ ap (λ (l : List Entry). flat_map f l) first ∙ flat_map-cons f entry rest) (omega arith)
