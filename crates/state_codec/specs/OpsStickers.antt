-- What the ops of stickers do.
use Rattle.std.specs.Prelude.{ℕ, Bool, false, List, Option, Some, None, option_map}
use Rattle.std.specs.Str.{bytes_eq}
use Rattle.song_db.specs.Change.{has_uri}
use Rattle.state_codec.specs.OpsSongs.{if_named}
use Rattle.state_codec.specs.SavedState.{SavedState}
use Rattle.state_codec.specs.declared.op.sticker_op.StickerOp.{StickerOp}
use Rattle.state_codec.specs.declared.op.sticker_op.StickerOp.TheVariants.{Set, Delete, DeleteAll}
use Rattle.state_codec.specs.declared.refusal.OpRefusal.{OpRefusal}
use Rattle.state_codec.specs.declared.refusal.OpRefusal.TheVariants.{Stickers}
use Rattle.stickers.specs.Sticker.{Sticker, value_at, with_sticker, without_sticker, without_song}
use Rattle.stickers.specs.Sticker.{get_refusal, set_refusal, delete_all_refusal}

-- what refuses it
abbrev pub sticker_refusal : StickerOp → SavedState → Option OpRefusal
sticker_refusal (Set uri name value) s = if_named (has_uri s.songs uri) (option_map Stickers (set_refusal s.stickers uri name))
sticker_refusal (Delete uri name) s = option_map Stickers (get_refusal s.stickers uri name)
sticker_refusal (DeleteAll uri) s = option_map Stickers (delete_all_refusal s.stickers uri)

-- the stickers after it
abbrev pub stickers_after : StickerOp → List Sticker → List Sticker
stickers_after (Set uri name value) all = with_sticker all uri name value
stickers_after (Delete uri name) all = without_sticker all uri name
stickers_after (DeleteAll uri) all = without_song all uri

-- the state after it
abbrev pub after_sticker : StickerOp → SavedState → SavedState
after_sticker op s = record s { stickers = stickers_after op s.stickers }

-- this is the value
abbrev pub is_value : List ℕ → Option (List ℕ) → Bool
is_value value None = false
is_value value (Some other) = bytes_eq value other

-- whether it changes nothing
abbrev pub leaves_stickers : StickerOp → SavedState → Bool
leaves_stickers (Set uri name value) s = is_value value (value_at s.stickers uri name)
leaves_stickers (Delete uri name) s = false
leaves_stickers (DeleteAll uri) s = false
