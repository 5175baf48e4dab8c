use Rattle.std.proofs.Common.{◌≡◌, ◌∙◌, map, take, arith, sym, ap, subst}
use Rattle.std.proofs.lemmas.List.{take_all}
use Rattle.play_journal.specs.Content.{Content}
use Rattle.play_journal.proofs.PairLaws.{reading-found}
use Rattle.play_journal.proofs.laws.keeps_order.Goals as goal

same : (g : _) (c : goal.After-drop-open-in-Ok-open-2 g) → g.D.Disk.honest c.args.a → g.D.Disk.honest c.args.b
    → c.in-Ok-open.field-0-0.content ≡ c.loop-body.journal.content
same g c a b =
    let disk_a : c.into_disks-a.result.0 ≡ c.loop-body.journal.a = ap (λ p. p.0) c.into_disks-a.ensures in
    let disk_b : c.into_disks-a.result.1 ≡ c.loop-body.journal.b = ap (λ p. p.1) c.into_disks-a.ensures in
    let honest_a = subst (λ d. g.D.Disk.honest d) (sym disk_a) (c.loop-body.invariant.honest_a a) in
    let honest_b = subst (λ d. g.D.Disk.honest d) (sym disk_b) (c.loop-body.invariant.honest_b b) in
    let content_a = g.D.Disk.content c.loop-body.journal.a in
    let content_b = g.D.Disk.content c.loop-body.journal.b in
    let image_a = g.met.D.Disk.content_is_image c.loop-body.journal.a (c.loop-body.invariant.honest_a a) in
    let image_b = g.met.D.Disk.content_is_image c.loop-body.journal.b (c.loop-body.invariant.honest_b b) in
    let told = c.loop-body.invariant.kept a b content_a content_b image_a image_b in
    reading-found content_a content_b c.in-Ok-open.field-0-0.content c.loop-body.journal.content (rw (disk_a, disk_b) at
    (c.in-Ok-open.ensures.read honest_a honest_b)) told

pub returns-in-Ok-open-clause-snapshot : goal.returns-in-Ok-open-clause-snapshot
returns-in-Ok-open-clause-snapshot g c = λ a b.
    let disk_a : c.into_disks-a.result.0 ≡ c.loop-body.journal.a = ap (λ p. p.0) c.into_disks-a.ensures in
    let disk_b : c.into_disks-a.result.1 ≡ c.loop-body.journal.b = ap (λ p. p.1) c.into_disks-a.ensures in
    let honest_a = subst (λ d. g.D.Disk.honest d) (sym disk_a) (c.loop-body.invariant.honest_a a) in
    let honest_b = subst (λ d. g.D.Disk.honest d) (sym disk_b) (c.loop-body.invariant.honest_b b) in
    c.in-Ok-open.ensures.opened.same_snapshot (honest_a, honest_b) ∙ ap (λ (x : Content). x.snapshot) (same g c a b)
    ∙ c.loop-body.invariant.snapshot a b

pub returns-in-Ok-open-clause-records : goal.returns-in-Ok-open-clause-records
returns-in-Ok-open-clause-records g c = λ a b.
    let disk_a : c.into_disks-a.result.0 ≡ c.loop-body.journal.a = ap (λ p. p.0) c.into_disks-a.ensures in
    let disk_b : c.into_disks-a.result.1 ≡ c.loop-body.journal.b = ap (λ p. p.1) c.into_disks-a.ensures in
    let honest_a = subst (λ d. g.D.Disk.honest d) (sym disk_a) (c.loop-body.invariant.honest_a a) in
    let honest_b = subst (λ d. g.D.Disk.honest d) (sym disk_b) (c.loop-body.invariant.honest_b b) in
    let all : take c.loop-body.body-index c.args.bodies.now ≡ c.args.bodies.now =
    take_all c.loop-body.body-index c.args.bodies.now (omega arith) in
    c.in-Ok-open.ensures.opened.same_records (honest_a, honest_b) ∙ ap (λ (x : Content). x.records) (same g c a b)
    ∙ c.loop-body.invariant.records a b ∙ ap (λ l. map (λ body. body.items) l) all
