use Rattle.flac.proofs.Samples.{first_place}
use Rattle.flac.proofs.reader.FlacReader.known_before.Goals as goal

pub returns-in-None-clause-known : goal.returns-in-None-clause-known
returns-in-None-clause-known c = λ file is. first_place c.args.self.now.info c.args.self.now.start file
