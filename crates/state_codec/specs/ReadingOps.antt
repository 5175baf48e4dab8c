-- The reading of ops, a reader for each family.
use Rattle.std.specs.Prelude.{ℕ, zero, suc, List, [], ◌∷◌, length, Result, Ok, Err, ◌==◌, if◌then◌else◌}
use Rattle.std.specs.Int.{is_in_range}
use Rattle.stickers.specs.Value.{is_good_value}
use Rattle.state_codec.specs.declared.op.Op.{Op}
use Rattle.state_codec.specs.declared.op.Op.TheVariants.{SetOption, SetVolume, SetOrder, Queue, List as OfList, Sticker, Batch, Place}
use Rattle.state_codec.specs.declared.op.Op.TheVariants.{Timed}
use Rattle.state_codec.specs.declared.op.setting.Setting.{Setting}
use Rattle.state_codec.specs.declared.op.setting.Setting.TheVariants as settings
use Rattle.state_codec.specs.declared.op.queue_op.QueueOp.{QueueOp}
use Rattle.state_codec.specs.declared.op.queue_op.QueueOp.TheVariants as queue
use Rattle.state_codec.specs.declared.op.list_op.ListOp.{ListOp}
use Rattle.state_codec.specs.declared.op.list_op.ListOp.TheVariants as lists
use Rattle.state_codec.specs.declared.op.sticker_op.StickerOp.{StickerOp}
use Rattle.state_codec.specs.declared.op.sticker_op.StickerOp.TheVariants as stickers
use Rattle.state_codec.specs.declared.layout.Layout.{Layout}
use Rattle.state_codec.specs.Fields.{Field, made, such, both, byte_at, u32_at, u64_at, pair_at, volume_at, flag_at, consume_at, single_at}
use Rattle.state_codec.specs.Fields.{text_at}
use Rattle.state_codec.specs.Items.{list_at}
use Rattle.state_codec.specs.ReadingPlace.{is_place_kind, place_op_at}
use Rattle.state_codec.specs.ReadingRows.{uri_at, changes_at}
use Rattle.state_codec.specs.ReadingTimes.{is_time_kind}
use Rattle.state_codec.specs.Steps.{◌>>=◌}

-- an option's number and its value
unfoldable pub setting_at : Layout → List ℕ → Field Setting
setting_at layout bytes = do
  kind ← byte_at bytes
  if kind.0 == 1 then made settings.Repeat (flag_at kind.1)
      else if kind.0 == 2 then made settings.Random (flag_at kind.1)
      else if kind.0 == 3 then made settings.Single (single_at kind.1)
      else if kind.0 == 4 then made settings.Consume (consume_at layout kind.1)
      else Err (length bytes)

abbrev pub row_numbers_at : List ℕ → Field (List ℕ)
row_numbers_at bytes = list_at u32_at bytes

abbrev pub ranges_at : List ℕ → Field (List (ℕ × ℕ))
ranges_at bytes = list_at pair_at bytes

-- the fields of an op on the queue, whose number was read, from 4 to 9
unfoldable pub queue_op_at : ℕ → List ℕ → Field QueueOp
queue_op_at kind bytes =
    if kind == 4 then made (λ x. queue.Add x.0 x.1) (both u32_at row_numbers_at bytes)
    else if kind == 5 then made (λ x. queue.Delete x.0 x.1) (pair_at bytes)
    else if kind == 6 then made (λ x. queue.Move x.0.0 x.0.1 x.1) (both pair_at u32_at bytes)
    else if kind == 7 then made (λ x. queue.Swap x.0 x.1) (pair_at bytes)
    else if kind == 8 then made (λ x. queue.Shuffle x.0 x.1) (pair_at bytes)
    else made (λ x. queue.Prio x.0 x.1) (both byte_at ranges_at bytes)

-- the fields of an op on the playlists, whose number was read, from 10 to 16
unfoldable pub list_op_at : ℕ → List ℕ → Field ListOp
list_op_at kind bytes =
    if kind == 10 then made lists.Save (text_at bytes)
    else if kind == 11 then made (λ x. lists.Add x.0 x.1) (both text_at row_numbers_at bytes)
    else if kind == 12 then made (λ x. lists.Remove x.0 x.1.0 x.1.1) (both text_at pair_at bytes)
    else if kind == 13 then made (λ x. lists.Move x.0 x.1.0 x.1.1) (both text_at pair_at bytes)
    else if kind == 14 then made lists.Clear (text_at bytes)
    else if kind == 15 then made (λ x. lists.Rename x.0 x.1) (both text_at text_at bytes)
    else made lists.Drop (text_at bytes)

-- the value of a sticker
abbrev pub value_at : List ℕ → Field (List ℕ)
value_at bytes = such is_good_value text_at bytes

-- the fields of an op on the stickers, whose number was read, from 17 to 19
unfoldable pub sticker_op_at : ℕ → List ℕ → Field StickerOp
sticker_op_at kind bytes =
    if kind == 17 then made (λ x. stickers.Set x.0 x.1.0 x.1.1) (both uri_at (both text_at value_at) bytes)
    else if kind == 18 then made (λ x. stickers.Delete x.0 x.1) (both uri_at text_at bytes)
    else made stickers.DeleteAll (uri_at bytes)

-- an op: its number and its fields
unfoldable pub op_at : Layout → List ℕ → Field Op
op_at layout bytes = do
  kind ← byte_at bytes
  if kind.0 == 1 then made SetOption (setting_at layout kind.1)
      else if kind.0 == 2 then made SetVolume (volume_at kind.1)
      else if kind.0 == 3 then made SetOrder (u64_at kind.1)
      else if is_in_range 4 9 kind.0 then made Queue (queue_op_at kind.0 kind.1)
      else if is_in_range 10 16 kind.0 then made OfList (list_op_at kind.0 kind.1)
      else if is_in_range 17 19 kind.0 then made Sticker (sticker_op_at kind.0 kind.1)
      else if kind.0 == 20 then made Batch (changes_at layout.profile kind.1)
      else if is_time_kind layout.profile kind.0 then made Timed (u64_at kind.1)
      else if is_place_kind layout.profile kind.0 then made Place (place_op_at kind.0 kind.1)
      else Err (length bytes)

-- the ops up to the end, at most n of them
unfoldable pub ops_at : Layout → ℕ → List ℕ → Result (List Op) ℕ
ops_at layout n [] = Ok []
ops_at layout zero (b ∷ rest) = Err (length (b ∷ rest))
ops_at layout (suc n) (b ∷ rest) = do
  first ← op_at layout (b ∷ rest)
  others ← ops_at layout n first.1
  Ok (first.0 ∷ others)
