-- The numbers of the refusals.
use Rattle.std.specs.Prelude.{ℕ}
use Rattle.play_queue.specs.Refusal.{number_of as queue_number}
use Rattle.song_db.specs.Refusal.{number_of as songs_number}
use Rattle.stickers.specs.Refusal.{number_of as stickers_number}
use Rattle.stored_lists.specs.Refusal.{number_of as lists_number}
use Rattle.state_codec.specs.declared.refusal.ApplyError.{ApplyError}
use Rattle.state_codec.specs.declared.refusal.ApplyError.TheVariants as apply
use Rattle.state_codec.specs.declared.refusal.BodyError.{BodyError}
use Rattle.state_codec.specs.declared.refusal.BodyError.TheVariants as body
use Rattle.state_codec.specs.declared.refusal.CodecError.{CodecError}
use Rattle.state_codec.specs.declared.refusal.CodecError.TheVariants as codec
use Rattle.state_codec.specs.declared.refusal.OpRefusal.{OpRefusal}
use Rattle.state_codec.specs.declared.refusal.OpRefusal.TheVariants.{Songs, Queue, Lists, Stickers}

abbrev pub number_of_op : OpRefusal → ℕ
number_of_op (Songs refusal) = songs_number refusal
number_of_op (Queue refusal) = queue_number refusal
number_of_op (Lists refusal) = lists_number refusal
number_of_op (Stickers refusal) = stickers_number refusal

abbrev pub number_of_apply : ApplyError → ℕ
number_of_apply apply.NoMemory = 7
number_of_apply (apply.Refused refusal) = number_of_op refusal

abbrev pub number_of_codec : CodecError → ℕ
number_of_codec codec.NoMemory = 7
number_of_codec (codec.BadOp offset) = 9
number_of_codec (codec.BadSnapshot offset) = 10

abbrev pub number_of_body : BodyError → ℕ
number_of_body body.NoMemory = 7
number_of_body (body.BadOp offset) = 9
number_of_body (body.DoesNotApply place) = 9
