-- The spelling of ops: an op's number and its fields.
use Rattle.std.specs.Prelude.{ℕ, List, [], ◌∷◌, ◌++◌}
use Rattle.profile.specs.declared.profile.Profile.{Profile}
use Rattle.state_codec.specs.declared.op.Op.{Op}
use Rattle.state_codec.specs.declared.op.Op.TheVariants.{SetOption, SetVolume, SetOrder, Queue, List as OfList, Sticker, Batch, Place}
use Rattle.state_codec.specs.declared.op.Op.TheVariants.{Timed}
use Rattle.state_codec.specs.declared.op.setting.Setting.{Setting}
use Rattle.state_codec.specs.declared.op.setting.Setting.TheVariants as settings
use Rattle.state_codec.specs.declared.op.place_op.PlaceOp.{PlaceOp}
use Rattle.state_codec.specs.declared.op.place_op.PlaceOp.TheVariants as places
use Rattle.state_codec.specs.declared.op.queue_op.QueueOp.{QueueOp}
use Rattle.state_codec.specs.declared.op.queue_op.QueueOp.TheVariants as queue
use Rattle.state_codec.specs.declared.op.list_op.ListOp.{ListOp}
use Rattle.state_codec.specs.declared.op.list_op.ListOp.TheVariants as lists
use Rattle.state_codec.specs.declared.op.sticker_op.StickerOp.{StickerOp}
use Rattle.state_codec.specs.declared.op.sticker_op.StickerOp.TheVariants as stickers
use Rattle.state_codec.specs.SpellingFields.{byte_bytes, u32_bytes, u64_bytes, pair_bytes, flag_bytes, single_bytes, state_bytes}
use Rattle.state_codec.specs.SpellingFields.{text_bytes, list_bytes}
use Rattle.state_codec.specs.SpellingRows.{changes_bytes}

-- the option's number and its value
abbrev pub setting_bytes : Setting → List ℕ
setting_bytes (settings.Repeat on) = 1 ∷ flag_bytes on
setting_bytes (settings.Random on) = 2 ∷ flag_bytes on
setting_bytes (settings.Single value) = 3 ∷ single_bytes value
setting_bytes (settings.Consume value) = 4 ∷ single_bytes value

abbrev pub row_numbers_bytes : List ℕ → List ℕ
row_numbers_bytes numbers = list_bytes u32_bytes numbers

abbrev pub ranges_bytes : List (ℕ × ℕ) → List ℕ
ranges_bytes ranges = list_bytes pair_bytes ranges

-- the numbers of the ops on the queue
abbrev pub queue_kind : QueueOp → ℕ
queue_kind (queue.Add at rows) = 4
queue_kind (queue.Delete start end) = 5
queue_kind (queue.Move start end to) = 6
queue_kind (queue.Swap one other) = 7
queue_kind (queue.Shuffle start end) = 8
queue_kind (queue.Prio priority ranges) = 9

abbrev pub queue_fields : QueueOp → List ℕ
queue_fields (queue.Add at rows) = u32_bytes at ++ row_numbers_bytes rows
queue_fields (queue.Delete start end) = pair_bytes (start, end)
queue_fields (queue.Move start end to) = pair_bytes (start, end) ++ u32_bytes to
queue_fields (queue.Swap one other) = pair_bytes (one, other)
queue_fields (queue.Shuffle start end) = pair_bytes (start, end)
queue_fields (queue.Prio priority ranges) = byte_bytes priority ++ ranges_bytes ranges

-- the numbers of the ops on the playlists
abbrev pub list_kind : ListOp → ℕ
list_kind (lists.Save name) = 10
list_kind (lists.Add name rows) = 11
list_kind (lists.Remove name start end) = 12
list_kind (lists.Move name from to) = 13
list_kind (lists.Clear name) = 14
list_kind (lists.Rename from to) = 15
list_kind (lists.Drop name) = 16

abbrev pub list_fields : ListOp → List ℕ
list_fields (lists.Save name) = text_bytes name
list_fields (lists.Add name rows) = text_bytes name ++ row_numbers_bytes rows
list_fields (lists.Remove name start end) = text_bytes name ++ pair_bytes (start, end)
list_fields (lists.Move name from to) = text_bytes name ++ pair_bytes (from, to)
list_fields (lists.Clear name) = text_bytes name
list_fields (lists.Rename from to) = text_bytes from ++ text_bytes to
list_fields (lists.Drop name) = text_bytes name

-- the numbers of the ops on the stickers
abbrev pub sticker_kind : StickerOp → ℕ
sticker_kind (stickers.Set uri name value) = 17
sticker_kind (stickers.Delete uri name) = 18
sticker_kind (stickers.DeleteAll uri) = 19

abbrev pub sticker_fields : StickerOp → List ℕ
sticker_fields (stickers.Set uri name value) = text_bytes uri ++ (text_bytes name ++ text_bytes value)
sticker_fields (stickers.Delete uri name) = text_bytes uri ++ text_bytes name
sticker_fields (stickers.DeleteAll uri) = text_bytes uri

-- the numbers of the ops on the player's place
abbrev pub place_kind : PlaceOp → ℕ
place_kind (places.Put state song frame) = 22
place_kind (places.Played id) = 23
place_kind places.Begins = 24
place_kind (places.Leaves id) = 25

abbrev pub place_fields : PlaceOp → List ℕ
place_fields (places.Put state song frame) = state_bytes state ++ (u32_bytes song ++ u64_bytes frame)
place_fields (places.Played id) = u32_bytes id
place_fields places.Begins = []
place_fields (places.Leaves id) = u32_bytes id

-- the op's number and its fields
abbrev pub op_bytes : Profile → Op → List ℕ
op_bytes profile (SetOption value) = 1 ∷ setting_bytes value
op_bytes profile (SetVolume volume) = 2 ∷ byte_bytes volume
op_bytes profile (SetOrder order) = 3 ∷ u64_bytes order
op_bytes profile (Queue op) = queue_kind op ∷ queue_fields op
op_bytes profile (OfList op) = list_kind op ∷ list_fields op
op_bytes profile (Sticker op) = sticker_kind op ∷ sticker_fields op
op_bytes profile (Batch changes) = 20 ∷ changes_bytes profile changes
op_bytes profile (Place op) = place_kind op ∷ place_fields op
op_bytes profile (Timed seconds) = 21 ∷ u64_bytes seconds
