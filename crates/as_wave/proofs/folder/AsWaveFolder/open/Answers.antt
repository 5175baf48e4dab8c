use Rattle.as_wave.proofs.WaveFiles.{none_opened, some_opened, plain_at}
use Rattle.as_wave.proofs.folder.AsWaveFolder.open.Goals as goal

pub returns-in_default-clause-opened : goal.returns-in_default-clause-opened
returns-in_default-clause-opened g c = λ told. none_opened c.args.self.now.forms (g.F.Folder.files c.args.self.now.folder) c.args.path.now
    (rw c.in_default.is at (c.in_ok-source.ensures.opened told))

pub returns-in-Ok-clause-opened : goal.returns-in-Ok-clause-opened
returns-in-Ok-clause-opened g c = λ told.
    let found = rw c.in-Some.is at (c.in_ok-source.ensures.opened told) in (
      some_opened c.args.self.now.forms (g.F.Folder.files c.args.self.now.folder) c.args.path.now _ _ found.0 (c.in-Ok.ensures.bytes
          found.1),
      c.in-Ok.ensures.honest found.1,
    )

pub returns-in-Ok-clause-unfailing : goal.returns-in-Ok-clause-unfailing
returns-in-Ok-clause-unfailing g c = λ told.
    let found = rw c.in-Some.is at (c.in_ok-source.ensures.opened told.1) in
    c.in-Ok.ensures.steady found.1 (rw c.in-Some.is at (c.in_ok-source.ensures.unfailing told.0)) (plain_at c.args.self.now.forms
    (g.F.Folder.files c.args.self.now.folder) c.args.path.now _ told.2 found.0)
