use Rattle.std.proofs.Common.{List, Result, Some, Ok, sym, ap, subst, ◌∙◌}
use Rattle.std.specs.Prelude.{ℕ}
use Rattle.command_text.specs.declared.refusal.CommandRefusal.{CommandRefusal}
use Rattle.command_text.specs.declared.refusal.CommandRefusal.TheVariants.{Setup}
use Rattle.command_text.specs.declared.refusal.SetupRefusal.TheVariants as refusals
use Rattle.covers.specs.Asked.{ToldChunk}
use Rattle.daemon_core.specs.Pictures.{chunk_lines, inside_lines, RunsShowing}
use Rattle.daemon_core.specs.Talking.{TellsTalk}
use Rattle.daemon_core.proofs.Showing.{refuses, tells, tells_nothing}
use Rattle.daemon_core.proofs.pictures.tell_inside.Goals as goal

pub returns-in-NoPicture : goal.returns-in-NoPicture
returns-in-NoPicture c =
    subst (λ (lines : Result (List ℕ) CommandRefusal). RunsShowing lines c.args.work.now c.args.work.now (Ok tt))
    (sym (ap (inside_lines c.args.limit) c.in-NoPicture.is)) (tells_nothing c.args.work.now c.requires)

pub returns-in-Unreadable : goal.returns-in-Unreadable
returns-in-Unreadable c =
    refuses (inside_lines c.args.limit c.args.answer.now) c.args.work.now (Setup refusals.PictureUnread) c.refuse.result
    (ap (inside_lines c.args.limit) c.in-Unreadable.is) c.refuse.ensures

pub returns-in-PastEnd : goal.returns-in-PastEnd
returns-in-PastEnd c =
    refuses (inside_lines c.args.limit c.args.answer.now) c.args.work.now (Setup refusals.BadOffset) c.refuse-in-PastEnd.result
    (ap (inside_lines c.args.limit) c.in-PastEnd.is) c.refuse-in-PastEnd.ensures

pub returns-in-Chunk : goal.returns-in-Chunk
returns-in-Chunk c =
    subst (λ (lines : Result (List ℕ) CommandRefusal). RunsShowing lines c.args.work.now c.tell_chunk.new.work c.tell_chunk.result)
    (sym (ap (inside_lines c.args.limit) c.in-Chunk.is))
    (tells _ c.args.work.now c.tell_chunk.new.work c.tell_chunk.result
    (subst (λ (mime : List ℕ). TellsTalk (chunk_lines c.args.limit (Some mime) c.in-Chunk.chunk) c.args.work.now c.tell_chunk.new.work
    c.tell_chunk.result) (c.as_str.ensures.value ∙ ap (λ (k : ToldChunk). k.mime) c.chunk.view_is)
    c.tell_chunk.ensures))
