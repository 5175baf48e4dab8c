use Rattle.song_db.proofs.Prefixes.{prefix_in}
use Rattle.song_db.proofs.scan.reader.Reader.take_listing.Goals as goal

pub enter-requires : goal.enter-requires
enter-requires c = prefix_in c.args.self.now.walk.place c.args.uri.now _ c.requires c.in_ok-prefix_of-in-Ok-Some.ensures

pub returns-in_ok-enter-in-Ok-Some-clause-pending : goal.returns-in_ok-enter-in-Ok-Some-clause-pending
returns-in_ok-enter-in-Ok-Some-clause-pending c = λ path.
    rw (c.in-Ok-Some.is, c.in-Ok-Some.field-0-is)
    (rw c.in_ok-prefix_of-in-Ok-Some.ensures at (c.in_ok-enter-in-Ok-Some.ensures.pending path))

pub returns-in_ok-enter-in-Ok-Some-clause-listed : goal.returns-in_ok-enter-in-Ok-Some-clause-listed
returns-in_ok-enter-in-Ok-Some-clause-listed c = λ files told all.
    c.in_ok-enter-in-Ok-Some.ensures.listed files
    (rw c.in_ok-prefix_of-in-Ok-Some.ensures (rw (c.in-Ok-Some.is, c.in-Ok-Some.field-0-is) at told)) all
