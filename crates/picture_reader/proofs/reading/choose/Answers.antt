use Rattle.std.specs.List.{position_or_len}
use Rattle.picture_reader.specs.Kept.{is_of}
use Rattle.picture_reader.proofs.Chosen.{chosen_open, chosen_steady, left_open, left_steady}
use Rattle.picture_reader.proofs.reading.choose.Goals as goal

pub returns-in-Some-clause-found : goal.returns-in-Some-clause-found
returns-in-Some-clause-found g c = λ honest all.
    chosen_open g.F.File.Source.bytes g.F.File.Source.honest (g.F.Folder.files c.args.folder.now) c.args.ask.now c.args.pictures.now
    (is_of c.args.client) c.in-Some.kept c.in-Some.ensures.next.0 c.in-Some.ensures.next.1 all

pub returns-in-Some-clause-steady : goal.returns-in-Some-clause-steady
returns-in-Some-clause-steady g c = λ honest steady all. (
  tt,
  chosen_steady g.F.File.Source.steady c.args.pictures.now (is_of c.args.client) c.in-Some.kept c.in-Some.ensures.next.0 all,
)

pub returns-in-Some-clause-left : goal.returns-in-Some-clause-left
returns-in-Some-clause-left g c = λ files all.
    left_open g.F.File.Source.bytes g.F.File.Source.honest files c.args.pictures.now _
    (position_or_len (is_of c.args.client) c.args.pictures.now) c.take_next.ensures.rest all

pub returns-in-Some-clause-left_steady : goal.returns-in-Some-clause-left_steady
returns-in-Some-clause-left_steady g c = λ all.
    left_steady g.F.File.Source.steady c.args.pictures.now _ (position_or_len (is_of c.args.client) c.args.pictures.now)
    c.take_next.ensures.rest all

pub returns-in-None-clause-left : goal.returns-in-None-clause-left
returns-in-None-clause-left g c = λ files all.
    left_open g.F.File.Source.bytes g.F.File.Source.honest files c.args.pictures.now _
    (position_or_len (is_of c.args.client) c.args.pictures.now) c.take_next.ensures.rest all

pub returns-in-None-clause-left_steady : goal.returns-in-None-clause-left_steady
returns-in-None-clause-left_steady g c = λ all.
    left_steady g.F.File.Source.steady c.args.pictures.now _ (position_or_len (is_of c.args.client) c.args.pictures.now)
    c.take_next.ensures.rest all
