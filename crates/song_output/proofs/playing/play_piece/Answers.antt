use Rattle.song_output.proofs.Answering.{answer_found, front_found}
use Rattle.song_output.proofs.Appending.{kept_none}
use Rattle.song_output.proofs.playing.play_piece.Goals as goal

pub returns-in-Written-clause-front : goal.returns-in-Written-clause-front
returns-in-Written-clause-front g c = (
  c.in_ok-piece.ensures.form,
  λ honest was.
      front_found c.args.output.now.form g.F.File.Source.bytes g.F.File.Source.honest (g.F.Folder.files c.args.folder.now) c.args.order.now
      c.in_ok-opened.field-0 c.in-Some.opened (g.W.Write.contents c.args.output.now.writer) (g.W.Write.contents c.play_open.new.output.writer)
      c.in_ok-piece.piece c.in-Some.is (c.in_ok-opened.ensures.opened honest was) c.in_ok-opened.ensures.ordered
      c.in_ok-piece.ensures.played,
)

pub returns-in_default-piece-clause-front : goal.returns-in_default-piece-clause-front
returns-in_default-piece-clause-front g c = (
  c.in_ok-piece.ensures.form,
  λ honest was.
      front_found c.args.output.now.form g.F.File.Source.bytes g.F.File.Source.honest (g.F.Folder.files c.args.folder.now) c.args.order.now
      c.in_ok-opened.field-0 c.in-Some.opened (g.W.Write.contents c.args.output.now.writer) (g.W.Write.contents c.play_open.new.output.writer)
      c.in_ok-piece.piece c.in-Some.is (c.in_ok-opened.ensures.opened honest was) c.in_ok-opened.ensures.ordered
      c.in_ok-piece.ensures.played,
)

pub returns-in_default-piece-clause-played : goal.returns-in_default-piece-clause-played
returns-in_default-piece-clause-played g c = λ honest was on.
    answer_found c.args.output.now.form g.F.File.Source.bytes g.F.File.Source.honest (g.F.Folder.files c.args.folder.now) c.args.order.now
    c.in_ok-opened.field-0 c.in-Some.opened (g.W.Write.contents c.args.output.now.writer) (g.W.Write.contents c.play_open.new.output.writer)
    c.in_ok-piece.piece c.in-Some.is (c.in_ok-opened.ensures.opened honest was) c.in_ok-opened.ensures.ordered
    c.in_ok-piece.ensures.played

pub returns-in_err-piece-clause-front : goal.returns-in_err-piece-clause-front
returns-in_err-piece-clause-front g c = (c.in_err-piece.ensures.form, λ honest was. (0, kept_none _ _ c.in_err-piece.ensures.memory))
