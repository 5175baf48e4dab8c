use Rattle.std.proofs.Common.{◌≡◌, ◌≤◌, true, List, [], length, refl, sym, ap, subst, ◌∙◌, arith}
use Rattle.std.proofs.lemmas.Bool.{leb-true, and_parts}
use Rattle.std.specs.Prelude.{nat_le}
use Rattle.std.specs.Result.{IfOk}
use Rattle.song_db.specs.declared.change.RowChange.{RowChange}
use Rattle.profile.specs.declared.profile.Profile.{Profile}
use Rattle.state_codec.specs.Changes.{AreChanges, are_kept}
use Rattle.machine_core.specs.Happening.{HasHappened, Happening, nothing_happens}
use Rattle.machine_core.specs.Keeping.{kept_event}
use Rattle.machine_core.specs.Scanning.{changes_rows, finds, kept_changes, spared, telling, when_found}
use Rattle.machine_core.specs.State.{MachineState}
use Rattle.machine_core.proofs.KeepingLaws.{kept_nothing}
use Rattle.machine_core.proofs.Scans.Laws.{found_is, none_found, none_told, nothing_happened, some_told}
use Rattle.machine_core.proofs.Scans.Rows.{spared_few, telling_kept, told_few}
use Rattle.machine_core.proofs.machine.Machine.batch.Goals as goal

pub change_rows-requires : goal.change_rows-requires
change_rows-requires c =
    let m = c.args.self.now in
    let songs : c.songs.result.now ≡ m.saved.songs = c.songs.ensures ∙ ap (λ (n : MachineState). n.saved.songs) c.self.view_is in
    let profile : c.profile-profile.result ≡ m.saved.profile =
    c.profile-profile.ensures ∙ ap (λ (n : MachineState). n.saved.profile) c.self.view_is in
    let told = (some_told c.new.result c.in_ok-told.told.items c.in-Some.told m c.new.ensures c.in-Some.is).0 in
    let kept : are_kept m.saved.profile c.in_ok-told.told.items ≡ true =
    subst (λ (p : Profile). are_kept p c.in_ok-told.told.items ≡ true) profile
    (ap (are_kept c.profile-profile.result) c.in_ok-told.ensures.told
    ∙ telling_kept c.profile-profile.result c.songs.result.now c.spare-spared.result.items) in
    rw (told, kept, ← songs, c.in_ok-told.ensures.fit) refl

pub returns-in-Some-clause-ok : goal.returns-in-Some-clause-ok
returns-in-Some-clause-ok c =
    let m = c.args.self.now in
    let songs : c.songs.result.now ≡ m.saved.songs = c.songs.ensures ∙ ap (λ (n : MachineState). n.saved.songs) c.self.view_is in
    let told = some_told c.new.result c.in_ok-told.told.items c.in-Some.told m c.new.ensures c.in-Some.is in
    let profile : c.profile-profile.result ≡ m.saved.profile =
    c.profile-profile.ensures ∙ ap (λ (n : MachineState). n.saved.profile) c.self.view_is in
    let all : telling m.saved.songs (kept_changes m.saved.profile (spared m c.args.changes)) ≡ c.in-Some.told =
    sym (told.0 ∙ c.in_ok-told.ensures.told ∙ (λ i. telling (songs i) (kept_changes (profile i) (c.spare-spared.ensures i)))) in
    let means : when_found c.args.job c.args.changes m ≡ changes_rows c.in-Some.told m =
    found_is c.args.job c.args.changes m (sym c.if-not-runs_job.ensures) (sym c.if-lacks_room.ensures)
    ∙ ap (λ (t : List RowChange). finds t m) all ∙ told.1 in
    subst (λ (h : Happening). IfOk c.change_rows.result (λ happened. HasHappened (kept_event m h) m c.change_rows.new.self happened))
    (sym means) c.change_rows.ensures.ok

pub returns-in-None-clause-ok : goal.returns-in-None-clause-ok
returns-in-None-clause-ok c =
    let m = c.args.self.now in
    let changes = c.args.changes in
    let songs : c.songs.result.now ≡ m.saved.songs = c.songs.ensures ∙ ap (λ (n : MachineState). n.saved.songs) c.self.view_is in
    let profile : c.profile-profile.result ≡ m.saved.profile =
    c.profile-profile.ensures ∙ ap (λ (n : MachineState). n.saved.profile) c.self.view_is in
    let told : c.in_ok-told.told.items ≡ telling m.saved.songs (kept_changes m.saved.profile (spared m changes)) =
    c.in_ok-told.ensures.told ∙ (λ i. telling (songs i) (kept_changes (profile i) (c.spare-spared.ensures i))) in
    let sound : AreChanges changes = subst AreChanges c.changes.view_is c.changes.invariant in
    let most : length changes ≤ 64 = leb-true _ _ (and_parts (nat_le 1 (length changes)) (nat_le (length changes) 64) sound.count).1 in
    let few : length c.in_ok-told.told.items ≤ 64 =
    omega (arith, ap length told, told_few m.saved.profile m.saved.songs (spared m changes), spared_few m changes, most) in
    let none : c.in_ok-told.told.items ≡ [] = none_told c.new.result c.in_ok-told.told.items c.new.ensures c.in-None.is few in
    let means : when_found c.args.job changes m ≡ nothing_happens m =
    found_is c.args.job changes m (sym c.if-not-runs_job.ensures) (sym c.if-lacks_room.ensures)
    ∙ ap (λ (t : List RowChange). finds t m) (sym told ∙ none) in
    subst (λ (h : Happening). HasHappened h m m c.nothing-in-None.result) (sym (ap (kept_event m) means ∙ kept_nothing m))
    (nothing_happened m c.nothing-in-None.result c.nothing-in-None.ensures.ops c.nothing-in-None.ensures.changed)

pub returns-then-lacks_room-clause-ok : goal.returns-then-lacks_room-clause-ok
returns-then-lacks_room-clause-ok c =
    let m = c.args.self.now in
    let means : when_found c.args.job c.args.changes m ≡ nothing_happens m =
    none_found c.args.job c.args.changes m (sym c.if-not-runs_job.ensures) (sym c.if-lacks_room.ensures) in
    subst (λ (h : Happening). HasHappened h m m c.nothing-then-lacks_room.result) (sym (ap (kept_event m) means ∙ kept_nothing m))
    (nothing_happened m c.nothing-then-lacks_room.result c.nothing-then-lacks_room.ensures.ops
    c.nothing-then-lacks_room.ensures.changed)
