use Rattle.std.proofs.Common.{◌≡◌, ◌++◌, List, length, ap, ◌∙◌}
use Rattle.std.specs.List.{flat_map}
use Rattle.stickers.specs.Sticker.{Sticker}
use Rattle.stored_lists.specs.Lists.{Stored}
use Rattle.state_codec.specs.Spelling.{entry_bytes, head_bytes, playlist_bytes, sticker_bytes}
use Rattle.state_codec.specs.SpellingFields.{u32_bytes}
use Rattle.state_codec.specs.SpellingRows.{row_bytes}
use Rattle.state_codec.proofs.PieceLaws.{parts_left}
use Rattle.state_codec.proofs.pieces.parts_of.Goals as goal

pub returns : goal.returns
returns c =
    let s = c.args.saved.now in
    let head : c.new.result ≡ head_bytes s = c.new.ensures in
    let row_count : c.len.result ≡ length s.songs = cc in
    let rows : c.new-2.result ≡ flat_map (row_bytes s.profile) s.songs = c.new-2.ensures in
    let entry_count : c.len-2.result ≡ length s.queue.entries = cc in
    let entries : c.new-3.result ≡ flat_map (entry_bytes s.songs) s.queue.entries = c.new-3.ensures in
    let list_count : c.len-3.result ≡ length s.lists = cc in
    let lists : c.new-4.result ≡ flat_map playlist_bytes s.lists =
    c.new-4.ensures ∙ ap (λ (l : Stored). flat_map playlist_bytes l) c.lists-2.ensures in
    let sticker_count : c.len-4.result ≡ length s.stickers = cc in
    let stickers : c.new-5.result ≡ flat_map sticker_bytes s.stickers =
    c.new-5.ensures ∙ ap (λ (l : List Sticker). flat_map sticker_bytes l) c.stickers-2.ensures in
    let fields = c.fields_of.ensures in
    (λ i. head i ++ ((u32_bytes (row_count i) ++ rows i)
    ++ ((u32_bytes (entry_count i) ++ entries i)
    ++ ((u32_bytes (list_count i) ++ lists i)
    ++ ((u32_bytes (sticker_count i) ++ stickers i)
    ++ fields i)))))
    ∙ parts_left s
