-- What every op of the program keeps: its numbers are in range and its texts have their form.
use Rattle.std.specs.Prelude.{ℕ, ◌<◌, ◌≤◌, ◌^◌, List, length, IsTrue}
use Rattle.std.specs.List.{AllByRecursion}
use Rattle.profile.specs.declared.profile.Profile.{Profile}
use Rattle.profile.specs.declared.profile.Profile.TheVariants.{Named, Wide}
use Rattle.song_db.specs.Uri.{is_uri}
use Rattle.state_codec.specs.Changes.{AreChanges, are_kept}
use Rattle.state_codec.specs.Numbers.{MAX_COUNT, AreRowNumbers, AreOpRanges}
use Rattle.state_codec.specs.Text.{is_text, is_sticker_text}
use Rattle.state_codec.specs.declared.op.Op.{Op}
use Rattle.state_codec.specs.declared.op.Op.TheVariants.{SetOption, SetVolume, SetOrder, Queue, List as OfList, Sticker, Batch, Place}
use Rattle.state_codec.specs.declared.op.Op.TheVariants.{Timed}
use Rattle.state_codec.specs.declared.op.place_op.PlaceOp.{PlaceOp}
use Rattle.state_codec.specs.declared.op.place_op.PlaceOp.TheVariants as places
use Rattle.state_codec.specs.declared.op.queue_op.QueueOp.{QueueOp}
use Rattle.state_codec.specs.declared.op.queue_op.QueueOp.TheVariants as queue
use Rattle.state_codec.specs.declared.op.list_op.ListOp.{ListOp}
use Rattle.state_codec.specs.declared.op.list_op.ListOp.TheVariants as lists
use Rattle.state_codec.specs.declared.op.sticker_op.StickerOp.{StickerOp}
use Rattle.state_codec.specs.declared.op.sticker_op.StickerOp.TheVariants as stickers

abbrev pub AreNumbers : ℕ → ℕ → Type 0
AreNumbers one other = (one ≤ MAX_COUNT) × (other ≤ MAX_COUNT)

abbrev pub IsQueueOp : QueueOp → Type 0
IsQueueOp (queue.Add at rows) = (at ≤ MAX_COUNT) × AreRowNumbers rows
IsQueueOp (queue.Delete start end) = AreNumbers start end
IsQueueOp (queue.Move start end to) = AreNumbers start end × (to ≤ MAX_COUNT)
IsQueueOp (queue.Swap one other) = AreNumbers one other
IsQueueOp (queue.Shuffle start end) = AreNumbers start end
IsQueueOp (queue.Prio priority ranges) = (priority < 256) × AreOpRanges ranges

abbrev pub IsText : List ℕ → Type 0
IsText text = IsTrue (is_text text)

abbrev pub IsListOp : ListOp → Type 0
IsListOp (lists.Save name) = IsText name
IsListOp (lists.Add name rows) = IsText name × AreRowNumbers rows
IsListOp (lists.Remove name start end) = IsText name × AreNumbers start end
IsListOp (lists.Move name from to) = IsText name × AreNumbers from to
IsListOp (lists.Clear name) = IsText name
IsListOp (lists.Rename from to) = IsText from × IsText to
IsListOp (lists.Drop name) = IsText name

abbrev pub IsUri : List ℕ → Type 0
IsUri uri = IsTrue (is_uri uri)

abbrev pub IsStickerOp : StickerOp → Type 0
IsStickerOp (stickers.Set uri name value) = IsUri uri × (IsText name × IsTrue (is_sticker_text value))
IsStickerOp (stickers.Delete uri name) = IsUri uri × IsText name
IsStickerOp (stickers.DeleteAll uri) = IsUri uri

abbrev pub IsPlaceOp : PlaceOp → Type 0
IsPlaceOp (places.Put state song frame) = (song < 2 ^ 32) × (frame < 2 ^ 64)
IsPlaceOp (places.Played id) = id < 2 ^ 32
IsPlaceOp places.Begins = Unit {0}
IsPlaceOp (places.Leaves id) = id < 2 ^ 32

abbrev pub IsOp : Op → Type 0
IsOp (SetOption setting) = Unit {0}
IsOp (SetVolume volume) = volume ≤ 100
IsOp (SetOrder order) = order < 2 ^ 64
IsOp (Queue op) = IsQueueOp op
IsOp (OfList op) = IsListOp op
IsOp (Sticker op) = IsStickerOp op
IsOp (Batch changes) = AreChanges changes
IsOp (Place op) = IsPlaceOp op
IsOp (Timed seconds) = seconds < 2 ^ 64

abbrev pub KeepsPlace : Profile → Type 0
KeepsPlace Named = ⊥
KeepsPlace Wide = Unit {0}

-- an op that the profile has, all of whose rows it keeps
abbrev pub IsKeptOp : Profile → Op → Type 0
IsKeptOp profile (SetOption setting) = Unit {0}
IsKeptOp profile (SetVolume volume) = Unit {0}
IsKeptOp profile (SetOrder order) = Unit {0}
IsKeptOp profile (Queue op) = Unit {0}
IsKeptOp profile (OfList op) = Unit {0}
IsKeptOp profile (Sticker op) = Unit {0}
IsKeptOp profile (Batch changes) = IsTrue (are_kept profile changes)
IsKeptOp profile (Place op) = KeepsPlace profile
IsKeptOp profile (Timed seconds) = KeepsPlace profile

-- the ops of one record under a profile: at least one
abbrev pub AreOps : Profile → List Op → Type 0
AreOps profile ops = (0 < length ops) × (AllByRecursion IsOp ops × AllByRecursion (IsKeptOp profile) ops)
