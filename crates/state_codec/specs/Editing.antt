-- What checking and applying an op answer.
use Rattle.std.specs.Prelude.{◌≡◌, Option, Some, None, Result, Ok, Err, IsOk, IsOkUnless, OnOk, OnErr}
use Rattle.play_queue.specs.declared.refusal.QueueError.{QueueError}
use Rattle.play_queue.specs.declared.refusal.QueueError.TheVariants.{NoMemory as QueueMemory}
use Rattle.song_db.specs.declared.refusal.SongDbError.{SongDbError}
use Rattle.song_db.specs.declared.refusal.SongDbError.TheVariants.{NoMemory as SongsMemory}
use Rattle.stickers.specs.declared.refusal.StickersError.{StickersError}
use Rattle.stickers.specs.declared.refusal.StickersError.TheVariants.{NoMemory as StickersMemory}
use Rattle.stored_lists.specs.declared.refusal.ListsError.{ListsError}
use Rattle.stored_lists.specs.declared.refusal.ListsError.TheVariants.{NoMemory as ListsMemory}
use Rattle.state_codec.specs.SavedState.{SavedState}
use Rattle.state_codec.specs.declared.refusal.ApplyError.{ApplyError}
use Rattle.state_codec.specs.declared.refusal.ApplyError.TheVariants.{NoMemory, Refused}
use Rattle.state_codec.specs.declared.refusal.OpRefusal.{OpRefusal}
use Rattle.state_codec.specs.declared.refusal.OpRefusal.TheVariants.{Songs, Queue, Lists, Stickers}

-- a check is refused by this, or else it succeeds
abbrev pub AnswersCheck : {T : Type 0} → Option OpRefusal → Result T OpRefusal → Type 0
AnswersCheck None r = IsOk r
AnswersCheck (Some refusal) r = r ≡ Err refusal

-- an edit is refused by this, or else by want of memory alone
abbrev pub AnswersApply : {T : Type 0} → Option OpRefusal → Result T ApplyError → Type 0
AnswersApply None r = IsOkUnless r NoMemory
AnswersApply (Some refusal) r = r ≡ Err (Refused refusal)

-- an edit that is refused leaves the state as it was
pub record IsEdit {T : Type 0} (refusal : Option OpRefusal) (edited before after : SavedState) (r : Result T ApplyError) : Type 0 where
  pub ok : OnOk r (after ≡ edited)
  pub err : OnErr r (after ≡ before)
  pub answer : AnswersApply refusal r

-- the error of an edit that was refused by a part
abbrev pub queue_told : QueueError → ApplyError
queue_told QueueMemory = NoMemory
queue_told e = Refused (Queue e)

abbrev pub songs_told : SongDbError → ApplyError
songs_told SongsMemory = NoMemory
songs_told e = Refused (Songs e)

abbrev pub lists_told : ListsError → ApplyError
lists_told ListsMemory = NoMemory
lists_told e = Refused (Lists e)

abbrev pub stickers_told : StickersError → ApplyError
stickers_told StickersMemory = NoMemory
stickers_told e = Refused (Stickers e)

-- what an edit of a part says, told of the op
abbrev pub QueueEdit : {T U : Type 0} → Result T QueueError → Result U ApplyError → Type 0
QueueEdit (Ok x) r = IsOk r
QueueEdit (Err e) r = r ≡ Err (queue_told e)

abbrev pub ListsEdit : {T U : Type 0} → Result T ListsError → Result U ApplyError → Type 0
ListsEdit (Ok x) r = IsOk r
ListsEdit (Err e) r = r ≡ Err (lists_told e)

abbrev pub StickersEdit : {T U : Type 0} → Result T StickersError → Result U ApplyError → Type 0
StickersEdit (Ok x) r = IsOk r
StickersEdit (Err e) r = r ≡ Err (stickers_told e)
