use Rattle.std.proofs.Common.{◌≡◌, List, length, ◌++◌, ap, ◌∙◌, arith}
use Rattle.std.specs.List.{flat_map}
use Rattle.profile.specs.declared.profile.Profile.{Profile}
use Rattle.song_db.specs.Row.{Row}
use Rattle.stickers.specs.Sticker.{Sticker}
use Rattle.stored_lists.specs.Lists.{Stored}
use Rattle.state_codec.specs.Sealed.{checksum_len}
use Rattle.state_codec.specs.Spelling.{playlist_bytes, sticker_bytes, head_bytes, parts_bytes}
use Rattle.state_codec.specs.SpellingRows.{row_bytes}
use Rattle.state_codec.proofs.LengthLaws.{end_len}
use Rattle.state_codec.proofs.SnapshotLaws.{parts_len}
use Rattle.state_codec.proofs.writing.lengths.saved_len.Goals as goal

pub returns : goal.returns
returns c =
    let s = c.args.saved.now in
    let parts = parts_len s c.requires in
    let rows : c.rows_len-rows.result ≡ length (flat_map (row_bytes s.profile) s.songs) =
    c.rows_len-rows.ensures.len ∙ ap (λ (p : Profile). length (flat_map (row_bytes p) c.rows.result.now)) c.profile-profile.ensures
    ∙ ap (λ (rows : List Row). length (flat_map (row_bytes s.profile) rows)) (c.rows.ensures.rows ∙ c.songs.ensures) in
    let entries : c.len-entries.result ≡ length s.queue.entries = cc in
    let lists : c.lists_len-lists.result ≡ length (flat_map playlist_bytes s.lists) =
    c.lists_len-lists.ensures.len ∙ ap (λ (lists : Stored). length (flat_map playlist_bytes lists)) c.lists.ensures in
    let stickers : c.stickers_len-stickers.result ≡ length (flat_map sticker_bytes s.stickers) =
    c.stickers_len-stickers.ensures.len ∙ ap (λ (all : List Sticker). length (flat_map sticker_bytes all)) c.stickers.ensures in
    let sum : c.checksum_len.result ≡ checksum_len s.profile =
    c.checksum_len.ensures ∙ ap (λ (p : Profile). checksum_len p) c.profile-profile.ensures in
    omega (
      arith,
      parts.head,
      parts.rows,
      parts.entries,
      parts.lists,
      parts.stickers,
      parts.whole,
      end_len s.profile s.changed s.place (head_bytes s ++ parts_bytes s),
      c.fields_len.ensures.len,
      rows,
      entries,
      lists,
      stickers,
      sum,
    )
