use Rattle.std.proofs.Common.{◌≡◌, ◌<◌, ◌≤◌, ℕ, true, false, Some, Err, inl, sym, ap, subst, ◌∙◌, arith}
use Rattle.std.proofs.lemmas.Bool.{le-leb, lt-leb}
use Rattle.profile.specs.declared.profile.Profile.{Profile}
use Rattle.state_codec.specs.Layout.{written_layout}
use Rattle.state_codec.specs.SavedState.{SavedState}
use Rattle.disk_model.proofs.LaterLaws.{pair_on}
use Rattle.daemon_core.specs.State.{State, start}
use Rattle.play_journal.proofs.RecordLaws.{bytes_fit}
use Rattle.play_journal.specs.Content.{Content}
use Rattle.play_journal.specs.Pair.{found}
use Rattle.std.specs.Prelude.{MatchResult}
use Rattle.live_stage.specs.Found.{brought, is_read, taken_state, KeepsFoundState}
use Rattle.live_stage.specs.Turns.{IsOver}
use Rattle.live_stage.proofs.FoundLaws.{open_now}
use Rattle.live_stage.proofs.ProfileLaws.{brought_err, taken_of, was_brought}
use Rattle.live_stage.proofs.OpeningLaws.{ok_then, match_then, match_both}
use Rattle.live_stage.proofs.StartLaws.{WasRead, nothing_done, opening_done, opening_goes_on, found_as_read, stands, found_so, found_small}
use Rattle.live_stage.proofs.StartLaws.{refused_content, refused_good, unread_cause, unread_none}
use Rattle.live_stage.proofs.live.Live.open.Given.{Over}
use Rattle.live_stage.proofs.live.Live.open.Goals as goal

-- the layout that was opened is read
known : (g : Over) (c : goal.After-over g) → is_read c.args.profile c.in-Ok-open.opened.0.layout ≡ true
known g c = le-leb c.in-Ok-open.opened.0.layout (written_layout c.args.profile) (omega (arith, c.layout.ensures.value, c.layout_number.ensures))

-- the content that was opened stands for the state that was taken of it
stood : (g : Over) (c : goal.After-over g) → g.D.Disk.honest c.args.a → g.D.Disk.honest c.args.b
    → taken_state c.in-Ok-state_in.saved.profile c.in-Ok-open.opened.0.content ≡ Some c.in-Ok-state_in.saved
stood g c ha hb =
    let opened = c.in-Ok-open.ensures.opened in
    let content = c.in-Ok-open.opened.0.content in
    let saved : SavedState = c.in-Ok-state_in.saved in
    let was = was_brought c.args.profile _ saved c.in-Ok-state_in.ensures.read in
    let first = stands content c.in-Ok-open.opened.0.layout _ _ was.first (opened.layout (ha, hb))
    (opened.same_snapshot (ha, hb)) (opened.same_records (ha, hb)) was.read in
    let reads : is_read c.args.profile content.layout ≡ true = ap (λ (n : ℕ). is_read c.args.profile n) (opened.layout (ha, hb)) ∙ known g c in
    subst (λ (p : Profile). taken_state p content ≡ Some saved) (sym (c.in-Ok-state_in.ensures.profile (known g c)))
    (taken_of c.args.profile content was.first reads first ∙ ap (λ (s : SavedState). Some s) was.is)

-- the same under the profile of the call
stood_here : (g : Over) (c : goal.After-over g) → g.D.Disk.honest c.args.a → g.D.Disk.honest c.args.b
    → taken_state c.args.profile c.in-Ok-open.opened.0.content ≡ Some c.in-Ok-state_in.saved
stood_here g c ha hb =
    let saved : SavedState = c.in-Ok-state_in.saved in
    subst (λ (p : Profile). taken_state p c.in-Ok-open.opened.0.content ≡ Some saved) (c.in-Ok-state_in.ensures.profile (known g c))
    (stood g c ha hb)

-- the same before the stage is made over it
known_before : (g : Over) (c : goal.In-Ok-state_in g) → is_read c.args.profile c.in-Ok-open.opened.0.layout ≡ true
known_before g c = le-leb c.in-Ok-open.opened.0.layout (written_layout c.args.profile) (omega (arith, c.layout.ensures.value, c.layout_number.ensures))

-- the content that was opened stands for the state that was taken of it
stood_before : (g : Over) (c : goal.In-Ok-state_in g) → g.D.Disk.honest c.args.a → g.D.Disk.honest c.args.b
    → taken_state c.in-Ok-state_in.saved.profile c.in-Ok-open.opened.0.content ≡ Some c.in-Ok-state_in.saved
stood_before g c ha hb =
    let opened = c.in-Ok-open.ensures.opened in
    let content = c.in-Ok-open.opened.0.content in
    let saved : SavedState = c.in-Ok-state_in.saved in
    let was = was_brought c.args.profile _ saved c.in-Ok-state_in.ensures.read in
    let first = stands content c.in-Ok-open.opened.0.layout _ _ was.first (opened.layout (ha, hb))
    (opened.same_snapshot (ha, hb)) (opened.same_records (ha, hb)) was.read in
    let reads : is_read c.args.profile content.layout ≡ true = ap (λ (n : ℕ). is_read c.args.profile n) (opened.layout (ha, hb)) ∙ known_before g c in
    subst (λ (p : Profile). taken_state p content ≡ Some saved) (sym (c.in-Ok-state_in.ensures.profile (known_before g c)))
    (taken_of c.args.profile content was.first reads first ∙ ap (λ (s : SavedState). Some s) was.is)

pub over-requires-clause-stands : goal.over-requires-clause-stands
over-requires-clause-stands g c = λ ha' hb'.
    let later = c.in-Ok-open.ensures.later in
    stood_before g c (later.a.honesty.1 ha') (later.b.honesty.1 hb')

pub returns-in-Err-clause-any_moment : goal.returns-in-Err-clause-any_moment
returns-in-Err-clause-any_moment g c = λ ha hb. nothing_done c.args.profile (g.D.Disk.history c.args.a) (g.D.Disk.history c.args.b)

pub returns-in-Err-open-clause-any_moment : goal.returns-in-Err-open-clause-any_moment
returns-in-Err-open-clause-any_moment g c = λ ha hb.
    let was = c.in-Err-open.ensures in
    rw (c.refused_start.ensures.a, c.refused_start.ensures.b)
    (opening_done c.args.profile _ _ _ _ (was.later.a.done ha) (was.later.b.done hb) (was.any_moment ha hb))

pub returns-in-Ok-state_in-clause-found : goal.returns-in-Ok-state_in-clause-found
returns-in-Ok-state_in-clause-found g c = λ ha hb.
    ok_then c.over.result c.over.ensures.begun (λ live begun.
    found_so c.args.profile _ _ c.in-Ok-open.opened.0.content _ (c.in-Ok-open.ensures.read ha hb) (stood_here g c ha hb)
    ∙ ap (λ (s : State). Some s.machine.saved) (sym begun.state))

pub returns-in-Ok-state_in-clause-any_moment : goal.returns-in-Ok-state_in-clause-any_moment
returns-in-Ok-state_in-clause-any_moment g c = λ ha hb.
    let was = c.in-Ok-open.ensures in
    let ha' = was.later.a.honesty.0 ha in
    let hb' = was.later.b.honesty.0 hb in
    let own = c.in-Ok-state_in.ensures.profile (known g c) in
    let first = open_now (g.D.Disk.history c.in-Ok-open.opened.0.a) (g.D.Disk.history c.in-Ok-open.opened.0.b)
    c.in-Ok-state_in.saved.profile c.in-Ok-open.opened.0.content c.in-Ok-state_in.saved (was.kept ha hb) (stood g c ha hb) in
    subst (λ (p : Profile). MatchResult c.over.result
    (λ live. KeepsFoundState p (g.D.Disk.history c.args.a) (g.D.Disk.history c.args.b) (g.D.Disk.history live.a) (g.D.Disk.history live.b))
    (λ e. KeepsFoundState p (g.D.Disk.history c.args.a) (g.D.Disk.history c.args.b) (g.D.Disk.history e.a) (g.D.Disk.history e.b))) own
    (match_both c.over.result (c.over.ensures.same_state ha' hb') c.over.ensures.later
    (λ live since later. opening_goes_on c.in-Ok-state_in.saved.profile _ _ _ _ _ _ c.in-Ok-state_in.saved (was.later.a.done ha) (was.later.b.done hb) (later.a.done ha')
    (later.b.done hb') (was.any_moment ha hb) first since)
    (λ e since later. opening_goes_on c.in-Ok-state_in.saved.profile _ _ _ _ _ _ c.in-Ok-state_in.saved (was.later.a.done ha) (was.later.b.done hb) (later.a.done ha')
    (later.b.done hb') (was.any_moment ha hb) first since))

pub returns-in-Ok-state_in-clause-numbers : goal.returns-in-Ok-state_in-clause-numbers
returns-in-Ok-state_in-clause-numbers g c = λ ha hb.
    let was = c.in-Ok-open.ensures in
    let own = c.in-Ok-open.opened.0.content in
    let is_found : found (g.D.Disk.content c.args.a) (g.D.Disk.content c.args.b) ≡ Some own = found_as_read _ _ own (was.read ha hb) in
    ok_then c.over.result (c.over.ensures.over (was.later.a.honesty.0 ha) (was.later.b.honesty.0 hb)) (λ live over content is.
    let same : own ≡ content = (cc) in
    subst (λ (k : Content). IsOver g.D.Disk.history k live) same over)

pub returns-in-Ok-state_in-clause-later : goal.returns-in-Ok-state_in-clause-later
returns-in-Ok-state_in-clause-later g c =
    match_then c.over.result c.over.ensures.later (λ live later. pair_on c.in-Ok-open.ensures.later later)
    (λ e later. pair_on c.in-Ok-open.ensures.later later)

-- the files that were read, of which no state was taken
was_read : (g : Over) (c : goal.After-drop-room-in-Err-state_in g) → g.D.Disk.honest c.args.a → g.D.Disk.honest c.args.b
    → WasRead (g.D.Disk.content c.args.a) (g.D.Disk.content c.args.b) c.in-Ok-open.opened.0.content c.in-Ok-open.opened.0.layout
    c.in-Ok-open.opened.1.snapshot c.in-Ok-open.opened.1.records
was_read g c ha hb =
    let was = c.in-Ok-open.ensures in
    let image_a = g.met.D.Disk.content_is_image c.args.a ha in
    let image_b = g.met.D.Disk.content_is_image c.args.b hb in
    record {
      read = was.read ha hb;
      same_layout = was.opened.layout (ha, hb);
      same_snapshot = was.opened.same_snapshot (ha, hb);
      same_records = was.opened.same_records (ha, hb);
      small = found_small _ _ c.in-Ok-open.opened.0.content (bytes_fit _ image_a.bytes) (bytes_fit _ image_b.bytes)
          (g.met.D.Disk.length_fits c.args.a ha) (g.met.D.Disk.length_fits c.args.b hb) (was.read ha hb);
    }

pub returns-in-Err-state_in-clause-cause : goal.returns-in-Err-state_in-clause-cause
returns-in-Err-state_in-clause-cause g c = λ ha hb.
    rw c.refused_over-in-Err-state_in.ensures.error
    (refused_content c.args.profile _ _ c.in-Ok-open.opened.0.content _ _ _ c.in-Err-state_in.error (was_read g c ha hb)
    (le-leb c.in-Ok-open.opened.0.layout (written_layout c.args.profile) (omega (arith, c.layout.ensures.value, c.layout_number.ensures)))
    (brought_err c.args.profile _ c.in-Err-state_in.error c.in-Err-state_in.ensures.read))

pub returns-in-Err-state_in-clause-any_moment : goal.returns-in-Err-state_in-clause-any_moment
returns-in-Err-state_in-clause-any_moment g c = λ ha hb.
    let was = c.in-Ok-open.ensures in
    rw (c.refused_over-in-Err-state_in.ensures.a, c.refused_over-in-Err-state_in.ensures.b)
    (opening_done c.args.profile _ _ _ _ (was.later.a.done ha) (was.later.b.done hb) (was.any_moment ha hb))

pub returns-in-Err-state_in-clause-opens : goal.returns-in-Err-state_in-clause-opens
returns-in-Err-state_in-clause-opens g c = λ ha hb all.
    let image_a = g.met.D.Disk.content_is_image c.args.a ha in
    let image_b = g.met.D.Disk.content_is_image c.args.b hb in
    rw c.refused_over-in-Err-state_in.ensures.error
    (inl (refused_good c.args.profile _ _ c.in-Ok-open.opened.0.content _ _ _ c.in-Err-state_in.error (was_read g c ha hb)
    (all _ _ image_a image_b) (brought_err c.args.profile _ c.in-Err-state_in.error c.in-Err-state_in.ensures.read)))

-- ---- a layout that isn't read

pub returns-then-layout-layout_number-clause-cause : goal.returns-then-layout-layout_number-clause-cause
returns-then-layout-layout_number-clause-cause g c = λ ha hb.
    let was = c.in-Ok-open.ensures in
    rw c.refused_over.ensures.error
    (unread_cause c.args.profile _ _ c.in-Ok-open.opened.0.content c.in-Ok-open.opened.0.layout (was.read ha hb) (was.opened.layout (ha, hb))
    (lt-leb c.in-Ok-open.opened.0.layout (written_layout c.args.profile) (omega (arith, c.layout.ensures.value, c.layout_number.ensures))))

pub returns-then-layout-layout_number-clause-any_moment : goal.returns-then-layout-layout_number-clause-any_moment
returns-then-layout-layout_number-clause-any_moment g c = λ ha hb.
    let was = c.in-Ok-open.ensures in
    rw (c.refused_over.ensures.a, c.refused_over.ensures.b)
    (opening_done c.args.profile _ _ _ _ (was.later.a.done ha) (was.later.b.done hb) (was.any_moment ha hb))

pub returns-then-layout-layout_number-clause-opens : goal.returns-then-layout-layout_number-clause-opens
returns-then-layout-layout_number-clause-opens g c = λ ha hb all.
    let was = c.in-Ok-open.ensures in
    let image_a = g.met.D.Disk.content_is_image c.args.a ha in
    let image_b = g.met.D.Disk.content_is_image c.args.b hb in
    absurd (unread_none c.args.profile _ _ c.in-Ok-open.opened.0.content c.in-Ok-open.opened.0.layout (was.read ha hb)
    (was.opened.layout (ha, hb))
    (lt-leb c.in-Ok-open.opened.0.layout (written_layout c.args.profile) (omega (arith, c.layout.ensures.value, c.layout_number.ensures)))
    (all _ _ image_a image_b))

pub returns-in-Ok-state_in-clause-begun : goal.returns-in-Ok-state_in-clause-begun
returns-in-Ok-state_in-clause-begun g c =
    ok_then c.over.result c.over.ensures.begun (λ live begun.
    let same : live.state.machine.saved ≡ c.in-Ok-state_in.saved = ap (λ (s : State). s.machine.saved) begun.state in (
      record { state = begun.state ∙ ap start (sym same); event = begun.event; work = begun.work; usable = begun.usable },
      ap (λ (s : SavedState). s.profile) same ∙ c.in-Ok-state_in.ensures.profile (known g c),
    ))
