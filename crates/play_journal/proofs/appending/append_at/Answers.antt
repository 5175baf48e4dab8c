use Rattle.std.proofs.Common.{◌≡◌, ◌+◌, Result, Ok, Err, arith}
use Rattle.std.specs.Prelude.{OnErr, OnOk}
use Rattle.disk_model.proofs.FaultLaws.{grown_before}
use Rattle.disk_model.proofs.LaterLaws.{later_on}
use Rattle.disk_model.proofs.MomentLaws.{all_weaker, all_join}
use Rattle.play_journal.proofs.AppendLaws.{Appending, gate_inside, gate_written, opened, staged, written_behind}
use Rattle.play_journal.specs.File.{open_gate}
use Rattle.play_journal.proofs.appending.append_at.Goals as goal

pub returns-in_err-write_synced-clause-any_moment : goal.returns-in_err-write_synced-clause-any_moment
returns-in_err-write_synced-clause-any_moment g c = λ honest is_settled len.
    let s = g.D.Disk.content c.args.disk.now in
    let small = g.met.D.Disk.length_fits c.args.disk.now honest in
    let is_at : c.saturating_add-behind.result ≡ c.args.gate + 1 = omega (arith, c.saturating_add-behind.ensures) in
    all_weaker _ (Appending s c.args.added.now c.args.gate len) _ _ (λ image torn. written_behind s c.args.added.now c.args.gate len _ _
    image is_at torn)
    (c.in_err-write_synced.ensures.any_moment honest is_settled (omega arith))

pub returns-clause-later : goal.returns-clause-later
returns-clause-later g c = later_on c.in_ok-write_synced.ensures.later c.write_synced-2.ensures.later

pub returns-clause-any_moment : goal.returns-clause-any_moment
returns-clause-any_moment g c = λ honest is_settled len.
    let s = g.D.Disk.content c.args.disk.now in
    let added = c.args.added.now in
    let gate = c.args.gate in
    let small = g.met.D.Disk.length_fits c.args.disk.now honest in
    let first = c.in_ok-write_synced.ensures in
    let second = c.write_synced-2.ensures in
    let is_at : c.saturating_add-behind.result ≡ gate + 1 = omega (arith, c.saturating_add-behind.ensures) in
    let honest' = first.later.honesty.0 honest in
    let content = g.D.Disk.content c.write_synced.new.disk in
    let is = staged s added gate len c.saturating_add-behind.result content is_at (first.written honest) in
    let inside = gate_inside s added gate len content is in
    all_join (Appending s added gate len) (g.D.Disk.history c.write_synced.new.disk) (g.D.Disk.history c.write_synced-2.new.disk) _
    (second.later.done honest')
    (all_weaker _ (Appending s added gate len) _ _ (λ image torn. written_behind s added gate len _ _ image is_at torn)
    (first.any_moment honest is_settled (omega arith)))
    (all_weaker _ (Appending s added gate len) _ _ (λ image torn. gate_written s added gate len content is image torn)
    (second.any_moment honest' (first.settled honest) (omega (arith, inside))))

on_ok : {T E P Q : Type 0} (r : Result T E) → OnOk r P → (P → Q) → OnOk r Q
on_ok (Ok x) p f = f p
on_ok (Err e) p f = tt

on_err : {T E P Q : Type 0} (r : Result T E) → OnErr r P → (P → Q) → OnErr r Q
on_err (Ok x) p f = tt
on_err (Err e) p f = f p

pub returns-clause-written : goal.returns-clause-written
returns-clause-written g c = λ honest len.
    let s = g.D.Disk.content c.args.disk.now in
    let added = c.args.added.now in
    let gate = c.args.gate in
    let small = g.met.D.Disk.length_fits c.args.disk.now honest in
    let first = c.in_ok-write_synced.ensures in
    let is_at : c.saturating_add-behind.result ≡ gate + 1 = omega (arith, c.saturating_add-behind.ensures) in
    let content = g.D.Disk.content c.write_synced.new.disk in
    let is = staged s added gate len c.saturating_add-behind.result content is_at (first.written honest) in
    on_ok _ (c.write_synced-2.ensures.written (first.later.honesty.0 honest))
    (opened s added gate len content is (g.D.Disk.content c.write_synced-2.new.disk) open_gate)

pub returns-clause-fault : goal.returns-clause-fault
returns-clause-fault g c = λ honest len.
    let s = g.D.Disk.content c.args.disk.now in
    let added = c.args.added.now in
    let gate = c.args.gate in
    let small = g.met.D.Disk.length_fits c.args.disk.now honest in
    let first = c.in_ok-write_synced.ensures in
    let is_at : c.saturating_add-behind.result ≡ gate + 1 = omega (arith, c.saturating_add-behind.ensures) in
    let content = g.D.Disk.content c.write_synced.new.disk in
    let is = staged s added gate len c.saturating_add-behind.result content is_at (first.written honest) in
    let inside = gate_inside s added gate len content is in
    on_err _ (c.write_synced-2.ensures.fault (first.later.honesty.0 honest) (omega (arith, inside)))
    (grown_before _ _ _ (omega (arith, first.met_none)))
