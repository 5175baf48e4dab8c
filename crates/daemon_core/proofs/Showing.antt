-- What is told of a picture, or why it isn't.
use Rattle.std.proofs.Common.{◌≡◌, ℕ, List, [], Option, Result, Ok, Err, refl, sym, ◌∙◌, ap}
use Rattle.std.proofs.Common.{subst, arith}
use Rattle.std.specs.Option.{ok_or}
use Rattle.std.proofs.lemmas.List.{append-nil}
use Rattle.command_text.specs.Counts.{◌>>=◌}
use Rattle.command_text.specs.declared.command.pictures.PicturesCommand.{PicturesCommand}
use Rattle.command_text.specs.declared.command.pictures.PicturesCommand.TheVariants as commands
use Rattle.command_text.specs.declared.refusal.CommandRefusal.{CommandRefusal}
use Rattle.command_text.specs.declared.refusal.CommandRefusal.TheVariants.{Setup}
use Rattle.command_text.specs.declared.refusal.SetupRefusal.TheVariants as refusals
use Rattle.covers.specs.declared.asked.PictureAnswer.{PictureAnswer}
use Rattle.covers.specs.declared.kind.PictureKind.TheVariants.{Album}
use Rattle.machine_core.specs.Front.{front_of}
use Rattle.machine_core.specs.Work.{HasRoom, command_room}
use Rattle.machine_core.specs.declared.work.Failure.{Failure}
use Rattle.machine_core.specs.declared.work.Failure.TheVariants as failures
use Rattle.machine_core.specs.declared.work.Work.{Work}
use Rattle.song_db.specs.Row.{Row}
use Rattle.daemon_core.specs.Pictures.{album_lines, answer_for, shown, IsShownRefusal, RunsShowing}
use Rattle.daemon_core.specs.Talking.{TellsTalk}
use Rattle.daemon_core.specs.declared.picture.PictureTold.{PictureTold}

-- these lines were told
pub tells : (text : List ℕ) (work done : Work) (r : Result (Unit {0}) Failure) → TellsTalk text work done r → RunsShowing (Ok text) work done r
tells text work done (Ok x) h = record { text = text; is = refl; adds = h.0; room = h.1 }
tells text work done (Err failure) h = (h.0, subst (IsShownRefusal (Ok text)) (sym h.1) tt)

-- it was refused, and nothing was added
pub refuses : (lines : Result (List ℕ) CommandRefusal) (work : Work) (refusal : CommandRefusal) (r : Result (Unit {0}) Failure) →
    lines ≡ Err refusal → r ≡ Err (failures.Refused refusal) → RunsShowing lines work work r
refuses lines work refusal r is same =
    subst (RunsShowing lines work work) (sym same) (record { text = refl; room = omega arith; ops = refl; size = refl }, is)

-- nothing is told
pub tells_nothing : (work : Work) → HasRoom command_room work → RunsShowing (Ok []) work work (Ok tt)
tells_nothing work room = record {
  text = [];
  is = refl;
  adds = record { text = ap front_of (sym (append-nil work.text.items)); ops = refl; size = refl };
  room = room;
}

-- the command of an album's picture, for which this was read
pub album_shown : (limit : ℕ) (told : Option PictureTold) (songs : List Row) (command : PicturesCommand) (uri at : List ℕ) (offset : ℕ)
    (answer : Option PictureAnswer) → command ≡ commands.AlbumArt uri offset → at ≡ uri → answer ≡ answer_for Album at offset told
    → shown limit told songs command ≡ (ok_or answer (Setup refusals.OnePicture) >>= album_lines limit)
unfolding shown
album_shown limit told songs command uri at offset answer is same read =
    ap (shown limit told songs) is
    ∙ ap (λ u. ok_or (answer_for Album u offset told) (Setup refusals.OnePicture) >>= album_lines limit) (sym same)
    ∙ ap (λ a. ok_or a (Setup refusals.OnePicture) >>= album_lines limit) (sym read)
