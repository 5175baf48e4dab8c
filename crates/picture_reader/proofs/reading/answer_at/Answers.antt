use Rattle.picture_reader.proofs.Chosen.{chosen_is}
use Rattle.picture_reader.proofs.reading.answer_at.Goals as goal

pub returns-in_err-kept-clause-kept : goal.returns-in_err-kept-clause-kept
returns-in_err-kept-clause-kept g c = λ honest all. c.choose.ensures.left (g.F.Folder.files c.args.folder.now) all

pub returns-in-Some-clause-kept : goal.returns-in-Some-clause-kept
returns-in-Some-clause-kept g c = λ honest all.
    c.answer_kept.ensures.still (g.F.Folder.files c.args.folder.now)
    (c.choose.ensures.left (g.F.Folder.files c.args.folder.now) all)
    (chosen_is g.F.File.Source.bytes g.F.File.Source.honest (g.F.Folder.files c.args.folder.now) c.args.ask.now c.in_ok-kept.field-0
    c.in-Some.kept c.in-Some.is (c.in_ok-kept.ensures.found honest all))

pub returns-in-None-clause-kept : goal.returns-in-None-clause-kept
returns-in-None-clause-kept g c = λ honest all. c.choose.ensures.left (g.F.Folder.files c.args.folder.now) all
