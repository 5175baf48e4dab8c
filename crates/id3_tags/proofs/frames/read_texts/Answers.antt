use Rattle.std.proofs.Common.{sym}
use Rattle.id3_tags.proofs.FrameList.{no_texts}
use Rattle.id3_tags.proofs.frames.read_texts.Goals as goal

pub returns-then-not-gives_texts-clause-read : goal.returns-then-not-gives_texts-clause-read
returns-then-not-gives_texts-clause-read g c = λ told. no_texts _ c.args.head.now c.args.texts.now (sym c.if-not-gives_texts.ensures)
    c.requires.room
