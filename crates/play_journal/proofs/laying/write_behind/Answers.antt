use Rattle.std.proofs.Common.{◌≡◌, ℕ, ◌+◌, ◌≤◌, List, [], ◌∷◌, ◌++◌, length, take, arith, ◌∙◌, refl, sym, subst, ap}
use Rattle.disk_model.specs.History.{Wrote, CutTo, Synced}
use Rattle.disk_model.proofs.BehindLaws.{behind_begin, behind_made, behind_failed}
use Rattle.disk_model.proofs.FaultLaws.{grown_before, grown_in_range, on_err_of}
use Rattle.disk_model.proofs.LaterLaws.{later_same, later_made, later_failed, later_on}
use Rattle.disk_model.proofs.MomentLaws.{all_now}
use Rattle.disk_model.proofs.WindowLaws.{all_synced}
use Rattle.disk_model.specs.Moments.{AllSince}
use Rattle.play_journal.specs.File.{IsShut}
use Rattle.play_journal.proofs.HeadLaws.{length-head}
use Rattle.play_journal.proofs.LayLaws.{shut_since, behind_further, behind_written, first_long, next_long}
use Rattle.play_journal.proofs.laying.write_behind.Goals as goal

pub returns-in_err-write_at-clause-later : goal.returns-in_err-write_at-clause-later
returns-in_err-write_at-clause-later g c =
    later_failed g.D.Disk.honest g.D.Disk.history g.D.Disk.faults c.args.disk.now c.write_at.new.self c.write_at.ensures.honest
    c.write_at.ensures.counted.later (Wrote 1 (length c.deref.result.now)) _ _ c.in_err-write_at.ensures.in_part

pub returns-in_err-write_at-clause-any_moment : goal.returns-in_err-write_at-clause-any_moment
returns-in_err-write_at-clause-any_moment g c = λ honest is_settled closed.
    let h0 = g.D.Disk.history c.args.disk.now in
    let h1 = g.D.Disk.history c.write_at.new.self in
    shut_since (g.D.Disk.content c.args.disk.now) h0 h1 is_settled closed (behind_failed 1 (Wrote 1 (length c.deref.result.now)) h0 h0 h1 _ _ (omega arith, tt)
    (behind_begin 1 h0) (c.in_err-write_at.ensures.in_part honest))

pub returns-in_err-write_pieces-clause-later : goal.returns-in_err-write_pieces-clause-later
returns-in_err-write_pieces-clause-later g c =
    later_on (later_made g.D.Disk.honest g.D.Disk.history g.D.Disk.faults c.args.disk.now c.write_at.new.self c.write_at.ensures.honest
    c.write_at.ensures.counted.later (Wrote 1 (length c.deref.result.now)) c.in_ok-write_at.ensures.made)
    c.write_pieces.ensures.later

pub returns-in_err-write_pieces-clause-any_moment : goal.returns-in_err-write_pieces-clause-any_moment
returns-in_err-write_pieces-clause-any_moment g c = λ honest is_settled closed.
    let h0 = g.D.Disk.history c.args.disk.now in
    let h1 = g.D.Disk.history c.write_at.new.self in
    let h2 = g.D.Disk.history c.write_pieces.new.disk in
    let k1 = c.write_at.ensures.honest.0 honest in
    let run1 = behind_made 1 (Wrote 1 (length c.deref.result.now)) h0 h0 h1 (omega arith, tt) (behind_begin 1 h0) (c.in_ok-write_at.ensures.made honest) in
    let run2 = behind_further 1 32 h0 h1 h2 (omega arith) run1 (c.write_pieces.ensures.behind k1) in
    shut_since (g.D.Disk.content c.args.disk.now) h0 h2 is_settled closed run2

pub returns-in_err-write_pieces-clause-fault : goal.returns-in_err-write_pieces-clause-fault
returns-in_err-write_pieces-clause-fault g c = λ honest closed.
    let k1 = c.write_at.ensures.honest.0 honest in
    let long : length c.deref.result.now ≡ 31 = ap length (c.deref.ensures.value ∙ c.put_head.ensures.head) ∙ length-head _ _ _ _ in
    let first : 32 ≤ length (g.D.Disk.content c.write_at.new.self) =
    first_long _ _ _ closed.stands long (c.in_ok-write_at.ensures.written honest) in
    on_err_of _ (grown_before _ (g.D.Disk.faults c.write_at.new.self) _ c.write_at.ensures.counted.later
    (c.in_err-write_pieces.ensures.fault k1 first))

pub returns-in_err-write_at-2-clause-later : goal.returns-in_err-write_at-2-clause-later
returns-in_err-write_at-2-clause-later g c =
    later_on (later_on (later_made g.D.Disk.honest g.D.Disk.history g.D.Disk.faults c.args.disk.now c.write_at.new.self c.write_at.ensures.honest
    c.write_at.ensures.counted.later (Wrote 1 (length c.deref.result.now)) c.in_ok-write_at.ensures.made)
    c.write_pieces.ensures.later)
    (later_failed g.D.Disk.honest g.D.Disk.history g.D.Disk.faults c.write_pieces.new.disk c.write_at-2.new.self
    c.write_at-2.ensures.honest c.write_at-2.ensures.counted.later (Wrote (32 + c.args.says.size) 1) _ _ c.in_err-write_at-2.ensures.in_part)

pub returns-in_err-write_at-2-clause-any_moment : goal.returns-in_err-write_at-2-clause-any_moment
returns-in_err-write_at-2-clause-any_moment g c = λ honest is_settled closed.
    let h0 = g.D.Disk.history c.args.disk.now in
    let h1 = g.D.Disk.history c.write_at.new.self in
    let h2 = g.D.Disk.history c.write_pieces.new.disk in
    let h3 = g.D.Disk.history c.write_at-2.new.self in
    let k1 = c.write_at.ensures.honest.0 honest in
    let k2 = c.write_pieces.ensures.later.honesty.0 k1 in
    let run1 = behind_made 1 (Wrote 1 (length c.deref.result.now)) h0 h0 h1 (omega arith, tt) (behind_begin 1 h0) (c.in_ok-write_at.ensures.made honest) in
    let run2 = behind_further 1 32 h0 h1 h2 (omega arith) run1 (c.write_pieces.ensures.behind k1) in
    shut_since (g.D.Disk.content c.args.disk.now) h0 h3 is_settled closed (behind_failed 1 (Wrote (32 + c.args.says.size) 1) h0 h2 h3 _ _
    (omega arith, tt) run2 (c.in_err-write_at-2.ensures.in_part k2))

pub returns-in_err-write_at-2-clause-fault : goal.returns-in_err-write_at-2-clause-fault
returns-in_err-write_at-2-clause-fault g c = λ honest closed.
    let k1 = c.write_at.ensures.honest.0 honest in
    let k2 = c.write_pieces.ensures.later.honesty.0 k1 in
    let long : length c.deref.result.now ≡ 31 = ap length (c.deref.ensures.value ∙ c.put_head.ensures.head) ∙ length-head _ _ _ _ in
    let first : 32 ≤ length (g.D.Disk.content c.write_at.new.self) =
    first_long _ _ _ closed.stands long (c.in_ok-write_at.ensures.written honest) in
    let second : 32 + c.args.says.size ≤ length (g.D.Disk.content c.write_pieces.new.disk) =
    omega (arith, (c.in_ok-write_pieces.ensures.written k1 first).long, c.requires.size) in
    on_err_of _ (grown_before _ (g.D.Disk.faults c.write_pieces.new.disk) _ (omega
    (arith, c.write_at.ensures.counted.later, c.write_pieces.ensures.later.counted))
    (grown_in_range c.in_err-write_at-2.field-0.0 _ _ (λ out. let below = (c.in_err-write_at-2.ensures.out_of_range k2).0 out in absurd (omega
    (arith, below, second))) c.in_err-write_at-2.ensures.counted))

pub returns-in_err-cut-clause-later : goal.returns-in_err-cut-clause-later
returns-in_err-cut-clause-later g c =
    later_on (later_on (later_on (later_made g.D.Disk.honest g.D.Disk.history g.D.Disk.faults c.args.disk.now c.write_at.new.self c.write_at.ensures.honest
    c.write_at.ensures.counted.later (Wrote 1 (length c.deref.result.now)) c.in_ok-write_at.ensures.made)
    c.write_pieces.ensures.later)
    (later_made g.D.Disk.honest g.D.Disk.history g.D.Disk.faults c.write_pieces.new.disk c.write_at-2.new.self
    c.write_at-2.ensures.honest c.write_at-2.ensures.counted.later (Wrote (32 + c.args.says.size) 1) c.in_ok-write_at-2.ensures.made))
    (later_failed g.D.Disk.honest g.D.Disk.history g.D.Disk.faults c.write_at-2.new.self c.cut.new.self c.cut.ensures.honest
    c.cut.ensures.counted.later (CutTo ((32 + c.args.says.size) + 1)) _ _ c.in_err-cut.ensures.in_part)

pub returns-in_err-cut-clause-any_moment : goal.returns-in_err-cut-clause-any_moment
returns-in_err-cut-clause-any_moment g c = λ honest is_settled closed.
    let h0 = g.D.Disk.history c.args.disk.now in
    let h1 = g.D.Disk.history c.write_at.new.self in
    let h2 = g.D.Disk.history c.write_pieces.new.disk in
    let h3 = g.D.Disk.history c.write_at-2.new.self in
    let h4 = g.D.Disk.history c.cut.new.self in
    let k1 = c.write_at.ensures.honest.0 honest in
    let k2 = c.write_pieces.ensures.later.honesty.0 k1 in
    let k3 = c.write_at-2.ensures.honest.0 k2 in
    let run1 = behind_made 1 (Wrote 1 (length c.deref.result.now)) h0 h0 h1 (omega arith, tt) (behind_begin 1 h0) (c.in_ok-write_at.ensures.made honest) in
    let run2 = behind_further 1 32 h0 h1 h2 (omega arith) run1 (c.write_pieces.ensures.behind k1) in
    let run3 = behind_made 1 (Wrote (32 + c.args.says.size) 1) h0 h2 h3 (omega arith, tt) run2 (c.in_ok-write_at-2.ensures.made k2) in
    shut_since (g.D.Disk.content c.args.disk.now) h0 h4 is_settled closed (behind_failed 1 (CutTo ((32 + c.args.says.size) + 1)) h0 h3 h4 _ _
    (omega arith, tt) run3 (c.in_err-cut.ensures.in_part k3))

pub returns-in_err-cut-clause-fault : goal.returns-in_err-cut-clause-fault
returns-in_err-cut-clause-fault g c = λ honest closed.
    let k1 = c.write_at.ensures.honest.0 honest in
    let k2 = c.write_pieces.ensures.later.honesty.0 k1 in
    let k3 = c.write_at-2.ensures.honest.0 k2 in
    let long : length c.deref.result.now ≡ 31 = ap length (c.deref.ensures.value ∙ c.put_head.ensures.head) ∙ length-head _ _ _ _ in
    let first : 32 ≤ length (g.D.Disk.content c.write_at.new.self) =
    first_long _ _ _ closed.stands long (c.in_ok-write_at.ensures.written honest) in
    let second : 32 + c.args.says.size ≤ length (g.D.Disk.content c.write_pieces.new.disk) =
    omega (arith, (c.in_ok-write_pieces.ensures.written k1 first).long, c.requires.size) in
    let third = next_long (g.D.Disk.content c.write_pieces.new.disk) (0 ∷ []) (g.D.Disk.content c.write_at-2.new.self)
    (32 + c.args.says.size) second (c.in_ok-write_at-2.ensures.written k2) in
    on_err_of _ (grown_before _ (g.D.Disk.faults c.write_at-2.new.self) _ (omega
    (arith, c.write_at.ensures.counted.later, c.write_pieces.ensures.later.counted, c.write_at-2.ensures.counted.later))
    (grown_in_range c.in_err-cut.field-0.0 _ _ (λ out. let below = (c.in_err-cut.ensures.out_of_range k3).0 out in absurd (omega
    (arith, below, third))) c.in_err-cut.ensures.counted))

pub returns-in_err-sync-clause-later : goal.returns-in_err-sync-clause-later
returns-in_err-sync-clause-later g c =
    later_on (later_on (later_on (later_on (later_made g.D.Disk.honest g.D.Disk.history g.D.Disk.faults c.args.disk.now c.write_at.new.self c.write_at.ensures.honest
    c.write_at.ensures.counted.later (Wrote 1 (length c.deref.result.now)) c.in_ok-write_at.ensures.made)
    c.write_pieces.ensures.later)
    (later_made g.D.Disk.honest g.D.Disk.history g.D.Disk.faults c.write_pieces.new.disk c.write_at-2.new.self
    c.write_at-2.ensures.honest c.write_at-2.ensures.counted.later (Wrote (32 + c.args.says.size) 1) c.in_ok-write_at-2.ensures.made))
    (later_made g.D.Disk.honest g.D.Disk.history g.D.Disk.faults c.write_at-2.new.self c.cut.new.self c.cut.ensures.honest
    c.cut.ensures.counted.later (CutTo ((32 + c.args.says.size) + 1)) c.in_ok-cut.ensures.made))
    (later_same g.D.Disk.honest g.D.Disk.history g.D.Disk.faults c.cut.new.self c.sync.new.self c.sync.ensures.honest
    c.sync.ensures.counted.later c.in_err-sync.ensures.not_made)

pub returns-in_err-sync-clause-any_moment : goal.returns-in_err-sync-clause-any_moment
returns-in_err-sync-clause-any_moment g c = λ honest is_settled closed.
    let h0 = g.D.Disk.history c.args.disk.now in
    let h1 = g.D.Disk.history c.write_at.new.self in
    let h2 = g.D.Disk.history c.write_pieces.new.disk in
    let h3 = g.D.Disk.history c.write_at-2.new.self in
    let h4 = g.D.Disk.history c.cut.new.self in
    let k1 = c.write_at.ensures.honest.0 honest in
    let k2 = c.write_pieces.ensures.later.honesty.0 k1 in
    let k3 = c.write_at-2.ensures.honest.0 k2 in
    let k4 = c.cut.ensures.honest.0 k3 in
    let run1 = behind_made 1 (Wrote 1 (length c.deref.result.now)) h0 h0 h1 (omega arith, tt) (behind_begin 1 h0) (c.in_ok-write_at.ensures.made honest) in
    let run2 = behind_further 1 32 h0 h1 h2 (omega arith) run1 (c.write_pieces.ensures.behind k1) in
    let run3 = behind_made 1 (Wrote (32 + c.args.says.size) 1) h0 h2 h3 (omega arith, tt) run2 (c.in_ok-write_at-2.ensures.made k2) in
    let run4 = behind_made 1 (CutTo ((32 + c.args.says.size) + 1)) h0 h3 h4 (omega arith, tt) run3 (c.in_ok-cut.ensures.made k3) in
    subst (λ l. AllSince IsShut l (length h0)) (sym (c.in_err-sync.ensures.not_made k4))
    (shut_since (g.D.Disk.content c.args.disk.now) h0 h4 is_settled closed run4)

pub returns-clause-later : goal.returns-clause-later
returns-clause-later g c =
    later_on (later_on (later_on (later_on (later_made g.D.Disk.honest g.D.Disk.history g.D.Disk.faults c.args.disk.now c.write_at.new.self c.write_at.ensures.honest
    c.write_at.ensures.counted.later (Wrote 1 (length c.deref.result.now)) c.in_ok-write_at.ensures.made)
    c.write_pieces.ensures.later)
    (later_made g.D.Disk.honest g.D.Disk.history g.D.Disk.faults c.write_pieces.new.disk c.write_at-2.new.self
    c.write_at-2.ensures.honest c.write_at-2.ensures.counted.later (Wrote (32 + c.args.says.size) 1) c.in_ok-write_at-2.ensures.made))
    (later_made g.D.Disk.honest g.D.Disk.history g.D.Disk.faults c.write_at-2.new.self c.cut.new.self c.cut.ensures.honest
    c.cut.ensures.counted.later (CutTo ((32 + c.args.says.size) + 1)) c.in_ok-cut.ensures.made))
    (later_made g.D.Disk.honest g.D.Disk.history g.D.Disk.faults c.cut.new.self c.sync.new.self c.sync.ensures.honest
    c.sync.ensures.counted.later (Synced (g.D.Disk.content c.cut.new.self)) c.in_ok-sync.ensures.made)

pub returns-clause-any_moment : goal.returns-clause-any_moment
returns-clause-any_moment g c = λ honest is_settled closed.
    let h0 = g.D.Disk.history c.args.disk.now in
    let h1 = g.D.Disk.history c.write_at.new.self in
    let h2 = g.D.Disk.history c.write_pieces.new.disk in
    let h3 = g.D.Disk.history c.write_at-2.new.self in
    let h4 = g.D.Disk.history c.cut.new.self in
    let k1 = c.write_at.ensures.honest.0 honest in
    let k2 = c.write_pieces.ensures.later.honesty.0 k1 in
    let k3 = c.write_at-2.ensures.honest.0 k2 in
    let k4 = c.cut.ensures.honest.0 k3 in
    let run1 = behind_made 1 (Wrote 1 (length c.deref.result.now)) h0 h0 h1 (omega arith, tt) (behind_begin 1 h0) (c.in_ok-write_at.ensures.made honest) in
    let run2 = behind_further 1 32 h0 h1 h2 (omega arith) run1 (c.write_pieces.ensures.behind k1) in
    let run3 = behind_made 1 (Wrote (32 + c.args.says.size) 1) h0 h2 h3 (omega arith, tt) run2 (c.in_ok-write_at-2.ensures.made k2) in
    let run4 = behind_made 1 (CutTo ((32 + c.args.says.size) + 1)) h0 h3 h4 (omega arith, tt) run3 (c.in_ok-cut.ensures.made k3) in
    let since = shut_since (g.D.Disk.content c.args.disk.now) h0 h4 is_settled closed run4 in
    all_synced IsShut h4 (g.D.Disk.history c.sync.new.self) (g.D.Disk.content c.cut.new.self) (length h0) (c.in_ok-sync.ensures.made k4)
    (all_now IsShut h4 (length h0) since (g.D.Disk.content c.cut.new.self) (g.met.D.Disk.content_is_image c.cut.new.self k4)) since

pub returns-clause-written : goal.returns-clause-written
returns-clause-written g c = λ honest closed.
    let k1 = c.write_at.ensures.honest.0 honest in
    let k2 = c.write_pieces.ensures.later.honesty.0 k1 in
    let k3 = c.write_at-2.ensures.honest.0 k2 in
    let k4 = c.cut.ensures.honest.0 k3 in
    let long : length c.deref.result.now ≡ 31 = ap length (c.deref.ensures.value ∙ c.put_head.ensures.head) ∙ length-head _ _ _ _ in
    let first : 32 ≤ length (g.D.Disk.content c.write_at.new.self) =
    first_long _ _ _ closed.stands long (c.in_ok-write_at.ensures.written honest) in
    let is = c.deref.ensures.value ∙ c.put_head.ensures.head in
    let snapshot = g.P.Pieces.left c.args.snapshot.now in
    let size : 32 + c.args.says.size ≡ 32 + length snapshot = omega (arith, c.requires.size) in
    c.in_ok-sync.ensures.content_stays k4
    ∙ behind_written (g.D.Disk.content c.args.disk.now) c.deref.result.now snapshot (g.D.Disk.content c.write_at.new.self)
    (g.D.Disk.content c.write_pieces.new.disk) (g.D.Disk.content c.write_at-2.new.self) (g.D.Disk.content c.cut.new.self)
    (32 + c.args.says.size) ((32 + c.args.says.size) + 1) closed.stands long size refl
    (c.in_ok-write_at.ensures.written honest) (c.in_ok-write_pieces.ensures.written k1 first)
    (c.in_ok-write_at-2.ensures.written k2) (c.in_ok-cut.ensures.cut k3)
    ∙ ap (λ (l : List ℕ). take 1 (g.D.Disk.content c.args.disk.now) ++ (l ++ snapshot ++ 0 ∷ [])) is
