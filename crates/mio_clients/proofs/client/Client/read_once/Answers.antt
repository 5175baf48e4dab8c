use Rattle.std.proofs.Common.{◌≡◌, sym, subst, ap, refl, take}
use Rattle.std.specs.Io.KnownBytes.{Keeps, Consumes}
use Rattle.mio_clients.specs.declared.client.Client.{Client}
use Rattle.mio_clients.proofs.GivenLaws.{reads_taken, part_piece}
use Rattle.mio_clients.proofs.client.Client.read_once.Goals as goal

pub returns-in-Ok-clause-reads : goal.returns-in-Ok-clause-reads
returns-in-Ok-clause-reads g c =
    let a = c.args.self.now in
    let b = c.take_or_close.new.self in
    let m : Client g.row.S.Denot = record a { stream = c.read.new.self; last_active = c.args.now } in
    let piece = take c.in-Ok.count c.read.new.buf in
    let remaining = g.S.Stream.remaining in
    let contents = g.S.Stream.contents in
    let stream : b.stream ≡ c.read.new.self = ap (λ (x : Client g.row.S.Denot). x.stream) c.take_or_close.ensures.same in
    let same : b.id ≡ m.id = ap (λ (x : Client g.row.S.Denot). x.id) c.take_or_close.ensures.same in
    let unwritten : Keeps (contents a.stream) (contents b.stream) =
    subst (λ (s : g.row.S.Denot). Keeps (contents a.stream) (contents s)) (sym stream) c.read.ensures.unwritten in
    let taken : Consumes (remaining a.stream) (remaining b.stream) piece =
    subst (λ (s : g.row.S.Denot). Consumes (remaining a.stream) (remaining s) piece) (sym stream) c.in-Ok.ensures.bytes.0 in
    λ ok. reads_taken remaining contents a m b piece c.args.queue.now.events c.take_or_close.new.queue.events c.requires.reading refl refl
    same unwritten taken (c.take_or_close.ensures.taken ok)

pub returns-in-Ok-clause-refused : goal.returns-in-Ok-clause-refused
returns-in-Ok-clause-refused g c =
    let a = c.args.self.now in
    let b = c.take_or_close.new.self in
    let m : Client g.row.S.Denot = record a { stream = c.read.new.self; last_active = c.args.now } in
    let piece = take c.in-Ok.count c.read.new.buf in
    let remaining = g.S.Stream.remaining in
    let contents = g.S.Stream.contents in
    let stream : b.stream ≡ c.read.new.self = ap (λ (x : Client g.row.S.Denot). x.stream) c.take_or_close.ensures.same in
    let same : b.id ≡ m.id = ap (λ (x : Client g.row.S.Denot). x.id) c.take_or_close.ensures.same in
    let unwritten : Keeps (contents a.stream) (contents b.stream) =
    subst (λ (s : g.row.S.Denot). Keeps (contents a.stream) (contents s)) (sym stream) c.read.ensures.unwritten in
    let taken : Consumes (remaining a.stream) (remaining b.stream) piece =
    subst (λ (s : g.row.S.Denot). Consumes (remaining a.stream) (remaining s) piece) (sym stream) c.in-Ok.ensures.bytes.0 in
    λ no. part_piece remaining contents a b piece c.args.queue.now.events c.take_or_close.new.queue.events c.requires.reading same
    unwritten taken (c.take_or_close.ensures.refused no)
