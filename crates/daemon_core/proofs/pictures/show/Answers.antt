use Rattle.std.proofs.Common.{List, Result, Some, None, sym, subst}
use Rattle.std.specs.Prelude.{ℕ, option_copied}
use Rattle.command_text.specs.declared.refusal.CommandRefusal.{CommandRefusal}
use Rattle.command_text.specs.declared.refusal.CommandRefusal.TheVariants.{Setup}
use Rattle.command_text.specs.declared.refusal.SetupRefusal.TheVariants as refusals
use Rattle.daemon_core.specs.Pictures.{shown, RunsShowing}
use Rattle.daemon_core.proofs.Showing.{album_shown, refuses}
use Rattle.daemon_core.proofs.pictures.show.Goals as goal

pub returns-in-Some : goal.returns-in-Some
returns-in-Some c =
    subst (λ (lines : Result (List ℕ) CommandRefusal). RunsShowing lines c.args.work.now c.tell_album.new.work c.tell_album.result)
    (sym (album_shown c.args.limit (option_copied c.args.told) c.args.songs.now c.args.command c.in-AlbumArt.uri c.as_str.result.now
    c.in-AlbumArt.offset (Some c.in-Some.answer.now) c.in-AlbumArt.is c.as_str.ensures c.in-Some.ensures))
    c.tell_album.ensures

pub returns-in-None : goal.returns-in-None
returns-in-None c =
    refuses (shown c.args.limit (option_copied c.args.told) c.args.songs.now c.args.command) c.args.work.now (Setup refusals.OnePicture)
    c.refuse.result
    (album_shown c.args.limit (option_copied c.args.told) c.args.songs.now c.args.command c.in-AlbumArt.uri c.as_str.result.now
    c.in-AlbumArt.offset None c.in-AlbumArt.is c.as_str.ensures c.in-None.ensures) c.refuse.ensures
