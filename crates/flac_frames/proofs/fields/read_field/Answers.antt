-- So many bits are taken.
use Rattle.flac_frames.specs.Left.{left}
use Rattle.flac_frames.proofs.Lengths.{reads_rest}
use Rattle.flac_frames.proofs.fields.read_field.Goals as goal

pub returns-clause-taken : goal.returns-clause-taken
returns-clause-taken c = reads_rest c.args.n (left c.args.reader.now) c.unsigned.result (left c.unsigned.new.self) c.unsigned.ensures.reads
