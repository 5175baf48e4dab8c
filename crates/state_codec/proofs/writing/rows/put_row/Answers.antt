use Rattle.std.proofs.Common.{ℕ, List, ◌++◌, ap, ◌∙◌, append_assoc}
use Rattle.std.specs.Prelude.{Option}
use Rattle.song_files.specs.declared.folder.FileStamp.{FileStamp}
use Rattle.song_db.specs.Row.{Row, row_of}
use Rattle.state_codec.specs.SpellingFields.{text_bytes}
use Rattle.state_codec.specs.SpellingRows.{row_fields_bytes}
use Rattle.state_codec.proofs.RoomLaws.{few_channels}
use Rattle.state_codec.proofs.writing.rows.put_row.Goals as goal

pub put_head-requires-clause-channels : goal.put_head-requires-clause-channels
put_head-requires-clause-channels c = rw (ap (λ (r : Row). r.channels) c.info.ensures) (few_channels c.args.row.now c.uri.ensures.row)

pub returns : goal.returns
returns c =
    let row = c.args.row.now in
    let old = c.args.out.now.items in
    let p = c.args.profile in
    let fields = row_fields_bytes p (row_of row.uri c.info.result.now c.stamp.result) in
    record {
      items =
          c.put_head.ensures.items
          ∙ ap (λ (x : List ℕ). x ++ fields) (c.put_text.ensures.items ∙ ap (λ (u : List ℕ). old ++ text_bytes u) c.uri.ensures.text)
          ∙ append_assoc old (text_bytes row.uri) fields
          ∙ ap (λ (s : Option FileStamp). old ++ (text_bytes row.uri ++ row_fields_bytes p (row_of row.uri c.info.result.now s))) c.stamp.ensures
          ∙ ap (λ (r : Row). old ++ (text_bytes row.uri ++ row_fields_bytes p r)) c.info.ensures;
      capacity = c.put_head.ensures.capacity ∙ c.put_text.ensures.capacity;
    }
