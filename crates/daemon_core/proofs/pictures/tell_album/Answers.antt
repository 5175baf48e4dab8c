use Rattle.std.proofs.Common.{ℕ, List, Result, sym, ap, subst}
use Rattle.command_text.specs.declared.refusal.CommandRefusal.{CommandRefusal}
use Rattle.command_text.specs.declared.refusal.CommandRefusal.TheVariants.{Setup}
use Rattle.command_text.specs.declared.refusal.SetupRefusal.TheVariants as refusals
use Rattle.daemon_core.specs.Pictures.{album_lines, RunsShowing}
use Rattle.daemon_core.proofs.Showing.{refuses, tells}
use Rattle.daemon_core.proofs.pictures.tell_album.Goals as goal

pub returns-in-NoPicture : goal.returns-in-NoPicture
returns-in-NoPicture c =
    refuses (album_lines c.args.limit c.args.answer.now) c.args.work.now (Setup refusals.NoPicture) c.refuse.result
    (ap (album_lines c.args.limit) c.in-NoPicture.is) c.refuse.ensures

pub returns-in-Unreadable : goal.returns-in-Unreadable
returns-in-Unreadable c =
    refuses (album_lines c.args.limit c.args.answer.now) c.args.work.now (Setup refusals.PictureUnread) c.refuse-in-Unreadable.result
    (ap (album_lines c.args.limit) c.in-Unreadable.is) c.refuse-in-Unreadable.ensures

pub returns-in-PastEnd : goal.returns-in-PastEnd
returns-in-PastEnd c =
    refuses (album_lines c.args.limit c.args.answer.now) c.args.work.now (Setup refusals.OffsetTooLarge) c.refuse-in-PastEnd.result
    (ap (album_lines c.args.limit) c.in-PastEnd.is) c.refuse-in-PastEnd.ensures

pub returns-in-Chunk : goal.returns-in-Chunk
returns-in-Chunk c =
    subst (λ (lines : Result (List ℕ) CommandRefusal). RunsShowing lines c.args.work.now c.tell_chunk.new.work c.tell_chunk.result)
    (sym (ap (album_lines c.args.limit) c.in-Chunk.is))
    (tells _ c.args.work.now c.tell_chunk.new.work c.tell_chunk.result c.tell_chunk.ensures)
