use Rattle.std.proofs.Common.{◌≡◌, ◌∙◌, ◌++◌, ap, subst, take, ◌<◌, length, List, ℕ, arith}
use Rattle.http_guard.specs.FirstLine.{IsVerdict}
use Rattle.http_guard.specs.declared.first_line.Verdict.{Verdict}
use Rattle.http_guard.proofs.GuardLaws.{keeps_on, holds_more, shuts, free_of_verdict, free_at_end, opens, not_shut, reads_from}
use Rattle.http_guard.proofs.guarded.Guarded.look.Goals as goal

pub returns-in-ShutOut-clause-bytes : goal.returns-in-ShutOut-clause-bytes
returns-in-ShutOut-clause-bytes g c =
    let first = g.S.Stream.remaining c.args.self.now.stream in
    let now = g.S.Stream.remaining c.read.new.self in
    let held = c.extend_from_slice.new.self.items in
    let seen : held ≡ c.args.self.now.held.items ++ take c.in_ok-count.count c.read.new.buf =
    c.in-Ok.ensures.ok ∙ ap (λ (v : List ℕ). v ++ take c.in_ok-count.count c.read.new.buf) c.reserve.ensures.items in
    let told = subst (λ (v : List ℕ). IsVerdict v c.judge.result) c.as_slice.ensures c.judge.ensures in
    rw (c.requires.looking, c.failed-in-ShutOut.ensures.told)
    (keeps_on _ _ _ (holds_more c.args.self.now.held.items (take c.in_ok-count.count c.read.new.buf) held first now seen
    c.in_ok-count.ensures.bytes.0)
    (shuts held held now (subst (λ (v : Verdict). IsVerdict held v) c.in-ShutOut.is told)))

pub returns-in-LetIn-clause-bytes : goal.returns-in-LetIn-clause-bytes
returns-in-LetIn-clause-bytes g c =
    let first = g.S.Stream.remaining c.args.self.now.stream in
    let now = g.S.Stream.remaining c.read.new.self in
    let held = c.extend_from_slice.new.self.items in
    let seen : held ≡ c.args.self.now.held.items ++ take c.in_ok-count.count c.read.new.buf =
    c.in-Ok.ensures.ok ∙ ap (λ (v : List ℕ). v ++ take c.in_ok-count.count c.read.new.buf) c.reserve.ensures.items in
    let told = subst (λ (v : List ℕ). IsVerdict v c.judge.result) c.as_slice.ensures c.judge.ensures in
    let free = free_of_verdict held now (subst (λ (v : Verdict). IsVerdict held v) c.in-LetIn.is told) in
    rw (c.requires.looking, c.open.ensures.passage)
    (reads_from _ _ _ c.open.result c.open.new.buf
    (keeps_on _ _ _ (holds_more c.args.self.now.held.items (take c.in_ok-count.count c.read.new.buf) held first now seen
    c.in_ok-count.ensures.bytes.0) (opens held now free))
    c.open.ensures.bytes)

pub returns-in-LetIn-clause-shut : goal.returns-in-LetIn-clause-shut
returns-in-LetIn-clause-shut g c = λ is.
    let first = g.S.Stream.remaining c.args.self.now.stream in
    let now = g.S.Stream.remaining c.read.new.self in
    let held = c.extend_from_slice.new.self.items in
    let seen : held ≡ c.args.self.now.held.items ++ take c.in_ok-count.count c.read.new.buf =
    c.in-Ok.ensures.ok ∙ ap (λ (v : List ℕ). v ++ take c.in_ok-count.count c.read.new.buf) c.reserve.ensures.items in
    let told = subst (λ (v : List ℕ). IsVerdict v c.judge.result) c.as_slice.ensures c.judge.ensures in
    let free = free_of_verdict held now (subst (λ (v : Verdict). IsVerdict held v) c.in-LetIn.is told) in
    absurd (not_shut c.args.self.now.held.items (take c.in_ok-count.count c.read.new.buf) held first now seen
    c.in_ok-count.ensures.bytes.0 free is)

pub returns-in-Unknown-clause-bytes : goal.returns-in-Unknown-clause-bytes
returns-in-Unknown-clause-bytes g c =
    let first = g.S.Stream.remaining c.args.self.now.stream in
    let now = g.S.Stream.remaining c.read.new.self in
    let held = c.extend_from_slice.new.self.items in
    let seen : held ≡ c.args.self.now.held.items ++ take c.in_ok-count.count c.read.new.buf =
    c.in-Ok.ensures.ok ∙ ap (λ (v : List ℕ). v ++ take c.in_ok-count.count c.read.new.buf) c.reserve.ensures.items in
    let told = subst (λ (v : List ℕ). IsVerdict v c.judge.result) c.as_slice.ensures c.judge.ensures in
    let room : 0 < length c.read.new.buf = omega arith in
    let at_end = c.in_ok-count.ensures.bytes.1 c.if-count-eq0.true room in
    let free = free_at_end held now (subst (λ (v : Verdict). IsVerdict held v) c.in-Unknown.is told) at_end in
    rw (c.requires.looking, c.open-in-Unknown.ensures.passage)
    (reads_from _ _ _ c.open-in-Unknown.result c.open-in-Unknown.new.buf
    (keeps_on _ _ _ (holds_more c.args.self.now.held.items (take c.in_ok-count.count c.read.new.buf) held first now seen
    c.in_ok-count.ensures.bytes.0) (opens held now free))
    c.open-in-Unknown.ensures.bytes)

pub returns-in-Unknown-clause-shut : goal.returns-in-Unknown-clause-shut
returns-in-Unknown-clause-shut g c = λ is.
    let first = g.S.Stream.remaining c.args.self.now.stream in
    let now = g.S.Stream.remaining c.read.new.self in
    let held = c.extend_from_slice.new.self.items in
    let seen : held ≡ c.args.self.now.held.items ++ take c.in_ok-count.count c.read.new.buf =
    c.in-Ok.ensures.ok ∙ ap (λ (v : List ℕ). v ++ take c.in_ok-count.count c.read.new.buf) c.reserve.ensures.items in
    let told = subst (λ (v : List ℕ). IsVerdict v c.judge.result) c.as_slice.ensures c.judge.ensures in
    let room : 0 < length c.read.new.buf = omega arith in
    let at_end = c.in_ok-count.ensures.bytes.1 c.if-count-eq0.true room in
    let free = free_at_end held now (subst (λ (v : Verdict). IsVerdict held v) c.in-Unknown.is told) at_end in
    absurd (not_shut c.args.self.now.held.items (take c.in_ok-count.count c.read.new.buf) held first now seen
    c.in_ok-count.ensures.bytes.0 free is)

pub returns-in-Unknown-2-clause-bytes : goal.returns-in-Unknown-2-clause-bytes
returns-in-Unknown-2-clause-bytes g c =
    let first = g.S.Stream.remaining c.args.self.now.stream in
    let now = g.S.Stream.remaining c.read.new.self in
    let seen : c.extend_from_slice.new.self.items ≡ c.args.self.now.held.items ++ take c.in_ok-count.count c.read.new.buf =
    c.in-Ok.ensures.ok ∙ ap (λ (v : List ℕ). v ++ take c.in_ok-count.count c.read.new.buf) c.reserve.ensures.items in
    rw c.requires.looking
    (holds_more c.args.self.now.held.items (take c.in_ok-count.count c.read.new.buf) c.extend_from_slice.new.self.items first now seen
    c.in_ok-count.ensures.bytes.0)
