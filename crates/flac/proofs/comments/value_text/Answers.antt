use Rattle.std.proofs.Common.{refl}
use Rattle.song_files.proofs.Texts.{no_utf8}
use Rattle.flac.proofs.comments.value_text.Goals as goal

pub returns-in_default : goal.returns-in_default
returns-in_default c = rw (no_utf8 c.args.bytes.now c.in_default.ensures.cases.0) refl
