-- Events that come too late, or to which nobody belongs any more, do nothing.
use Rattle.std.proofs.Common.{◌≡◌, ℕ, Bool, true, false, not, ◌||◌, ◌&&◌, ◌==◌, List, [], ◌∷◌, Option, Some, None, cond}
use Rattle.std.proofs.Common.{refl, ◌∙◌, ap, eq-eqb, map}
use Rattle.std.specs.Prelude.{is_some, is_none, nat_eq, min, ◌+◌}
use Rattle.std.specs.Option.{option_eq}
use Rattle.std.proofs.lemmas.Bool.{and_from, and_parts, false≢true}
use Rattle.std.proofs.Math.Bool.{or-false}
use Rattle.idle_masks.specs.Subsystems.{contains, none, union, is_empty, difference}
use Rattle.idle_masks.specs.Watched.{watched, left, due, report_of, reported, reports_of, after_reports}
use Rattle.idle_masks.specs.declared.ready.Report.{Report}
use Rattle.idle_masks.specs.declared.subsystem.Subsystems.{Subsystems}
use Rattle.idle_masks.specs.declared.watch.Watched.{Watched}
use Rattle.command_text.specs.declared.request.Request.{Request}
use Rattle.machine_core.specs.Changed.{changed, same_state, same_playing, same_job, same_options}
use Rattle.machine_core.specs.Followed.{current_row}
use Rattle.machine_core.specs.Happening.{Happening, if_room, nothing_happens}
use Rattle.machine_core.specs.Keeping.{keeps_place, kept_event, resumes}
use Rattle.machine_core.specs.Missing.{misses}
use Rattle.machine_core.specs.Reports.{when_fed, when_ended, when_broken, fed_in, happens, player_happens}
use Rattle.machine_core.specs.Scanning.{is_running, finds, kept_changes, telling, ends_scan, when_found, spared}
use Rattle.machine_core.specs.State.{MachineState, lacks_room, settings_of}
use Rattle.machine_core.specs.Steps.{stepping, steps, unsaved, without_consume}
use Rattle.machine_core.specs.declared.clock.ClockTime.{ClockTime}
use Rattle.machine_core.specs.declared.job.Job.{Job}
use Rattle.machine_core.proofs.KeepingLaws.{kept_nothing}
use Rattle.machine_core.proofs.SameParts.{lists_decide, stickers_decide, text_itself}
use Rattle.play_queue.specs.declared.entry.Entry.{Entry as QueueEntry}
use Rattle.player_core.specs.Ending.{ended, ended_in, over}
use Rattle.player_core.specs.Order.{current_entry}
use Rattle.player_core.specs.Player.{PlayerState, Step, unchanged}
use Rattle.player_core.specs.Reports.{broken, counts, failed, failed_of, failure, is_through, passed, passes_by}
use Rattle.player_core.specs.declared.failure.BrokenCause.{BrokenCause}
use Rattle.player_core.specs.declared.failure.BrokenCause.TheVariants.{Source, Output}
use Rattle.player_core.specs.declared.manners.Manners.{Manners}
use Rattle.player_core.specs.declared.manners.Manners.TheVariants.{Named, Mpd}
use Rattle.player_core.specs.declared.options.Options.{Options}
use Rattle.player_core.specs.declared.options.Single.{Single}
use Rattle.player_core.specs.declared.options.Single.TheVariants.{Off, On, Oneshot}
use Rattle.player_core.specs.declared.playing.PlayState.{PlayState}
use Rattle.player_core.specs.declared.playing.PlayState.TheVariants.{Stop, Play, Pause}
use Rattle.player_core.specs.declared.settings.PlaySettings.{PlaySettings}
use Rattle.song_db.specs.Row.{Row}
use Rattle.state_codec.specs.OpsSettings.{same_flag, same_single}
use Rattle.state_codec.specs.SavedState.{SavedState}
use Rattle.daemon_core.specs.Pending.{with_news}
use Rattle.daemon_core.specs.Quiet.{is_quiet}
use Rattle.daemon_core.specs.Replay.{Entry, stepped, replay}
use Rattle.daemon_core.specs.Session.{nothing, happened}
use Rattle.daemon_core.specs.State.{State, clocked, with_clients, with_views, with_messages, with_pictures}
use Rattle.daemon_core.specs.Step.{Stepped, connects_client, requested_by, waiting_of, acted, settles, step}
use Rattle.daemon_core.specs.Stray.{is_stop, is_late, is_over, is_stray, stays}
use Rattle.daemon_core.specs.declared.event.Event.{Event}
use Rattle.daemon_core.specs.declared.event.Event.TheVariants as events
use Rattle.daemon_core.proofs.PendingLaws.{contains-set_of, set_ext}
use Rattle.daemon_core.proofs.QuietLaws.{quiet}
use Rattle.daemon_core.proofs.SeenLaws.{views_absent, messages_absent, pictures_absent, unread_absent}

-- Where nobody waits for what is pending for it, an event that does nothing tells nobody.
union-none : (s : Subsystems) → union s none ≡ s
union-none s = set_ext _ _ (λ x.
    contains-set_of (λ y. contains s y || contains none y) x
    ∙ ap (λ b. contains s x || b) (contains-set_of (λ _. false) x) ∙ or-false (contains s x))

no_news : (ws : List Watched) → with_news none [] ws ≡ ws
no_news [] = refl
no_news (w ∷ ws) = λ i. (record w { pending = union-none w.pending i }) ∷ no_news ws i

not_told : (w : Watched) → is_empty (due w) ≡ true → reported w ≡ w
not_told w h = ap (λ b. cond b w (record w { pending = difference w.pending (due w); waiting = None })) h

none_told : (ws : List Watched) → is_quiet ws ≡ true → after_reports ws ≡ ws
none_told [] h = refl
none_told (w ∷ ws) h =
    let parts = and_parts (is_empty (due w)) (is_quiet ws) h in λ i. not_told w parts.0 i ∷ none_told ws parts.1 i

not_due : (w : Watched) → is_empty (due w) ≡ true → report_of w ≡ None
not_due w h = ap (λ b. cond b None (Some (record { client = w.client; changed = due w }))) h

none_due : (ws : List Watched) → is_quiet ws ≡ true → reports_of ws ≡ []
none_due [] h = refl
none_due (w ∷ ws) h =
    let parts = and_parts (is_empty (due w)) (is_quiet ws) h in
    ap (λ o. Rattle.std.specs.List.cons_option o (reports_of ws)) (not_due w parts.0) ∙ none_due ws parts.1

abbrev tells : State → List Watched → List Report → Stepped
tells s clients reports = record {
  after = with_clients s clients;
  outputs = map Rattle.daemon_core.specs.Step.told_to reports;
  closes = [];
  ops = [];
  refused_at = None;
  looks = 0;
  ended = false;
  moment = record { connected = None; changed = none; notified = []; reports = reports };
}

pub nothing_told : (s : State) → is_quiet s.clients ≡ true → settles (nothing s) ≡ stays s
nothing_told s h =
    let clients : after_reports (with_news none [] s.clients) ≡ s.clients = ap after_reports (no_news s.clients) ∙ none_told s.clients h in
    let reports : reports_of (with_news none [] s.clients) ≡ [] = ap reports_of (no_news s.clients) ∙ none_due s.clients h in
    λ i. tells s (clients i) (reports i)

-- A machine that stays has nothing changed.
flag_itself : (b : Bool) → same_flag b b ≡ true
flag_itself true = refl
flag_itself false = refl

number_itself : (n : Option ℕ) → option_eq nat_eq n n ≡ true
number_itself None = refl
number_itself (Some n) = eq-eqb n n refl

state_itself : (s : PlayState) → same_state s s ≡ true
state_itself Stop = refl
state_itself Play = refl
state_itself Pause = refl

single_itself : (s : Single) → same_single s s ≡ true
single_itself Off = refl
single_itself On = refl
single_itself Oneshot = refl

job_itself : (j : Job) → same_job j j ≡ true
job_itself j = and_from _ _ (eq-eqb j.number j.number refl) (and_from _ _ (text_itself j.place) (flag_itself j.runs))

playing_itself : (p : PlayerState) → same_playing p p ≡ true
playing_itself p = and_from _ _ (state_itself p.state) (and_from _ _ (number_itself p.current) (eq-eqb p.ticket p.ticket refl))

options_itself : (o : Options) → same_options o o ≡ true
options_itself o =
    and_from _ _ (flag_itself o.repeat)
    (and_from _ _ (flag_itself o.random) (and_from _ _ (single_itself o.single) (single_itself o.consume)))

changed_itself : (m : MachineState) → changed m m ≡ none
unfolding changed
changed_itself m =
    let lists = (lists_decide m.saved.lists m.saved.lists).1 refl in
    let stickers = (stickers_decide m.saved.stickers m.saved.stickers).1 refl in
    λ i. record {
      database = false;
      update = not (job_itself m.job i);
      stored_playlist = not (lists i);
      playlist = not (eq-eqb m.saved.queue.version m.saved.queue.version refl i);
      player = not (playing_itself m.player i);
      mixer = not (eq-eqb m.saved.volume m.saved.volume refl i);
      options = not (options_itself m.saved.options i);
      sticker = not (stickers i);
      subscription = false;
      message = false;
    }

-- Reports of the output.
not_false : (b : Bool) → not b ≡ true → b ≡ false
not_false true h = absurd (false≢true h)
not_false false h = refl

late_counts : (state : PlayState) (present ticket : ℕ) → (is_stop state || not (present == ticket)) ≡ true →
    counts state present ticket ≡ false
late_counts Stop present ticket late = refl
late_counts Play present ticket late = not_false (present == ticket) late
late_counts Pause present ticket late = not_false (present == ticket) late

late_fed : (row : Option Row) (ticket frames : ℕ) (player : PlayerState) → is_late ticket player ≡ true →
    fed_in row ticket frames player ≡ player
late_fed None ticket frames player late = refl
late_fed (Some row) ticket frames player late =
    ap (λ b. cond b (record player { frame = min (player.frame + frames) row.frames }) player)
    (late_counts player.state player.ticket ticket late)

late_passes : (by : Manners) (cause : BrokenCause) (state : PlayState) (same through : Bool) → (is_stop state || not same) ≡ true →
    (passes_by by cause state && (same && not through)) ≡ false
late_passes Named cause state same through late = refl
late_passes Mpd Output state same through late = refl
late_passes Mpd Source Stop same through late = refl
late_passes Mpd Source Play same through late = ap (λ b. b && not through) (not_false same late)
late_passes Mpd Source Pause same through late = refl

late_broken : (ticket : ℕ) (cause : BrokenCause) (uri : List ℕ) (player : PlayerState) → is_late ticket player ≡ true →
    broken player ticket cause uri ≡ player
late_broken ticket cause uri player late =
    ap (λ b. cond b (record player { state = Stop; error = Some (failure cause uri) }) player)
    (late_counts player.state player.ticket ticket late)

late_failed : (entry : Option QueueEntry) (entries : List QueueEntry) (settings : PlaySettings) (ticket : ℕ) (cause : BrokenCause)
    (player : PlayerState) → is_late ticket player ≡ true → failed_of entries settings player ticket cause entry ≡ unchanged player
late_failed None entries settings ticket cause player late = refl
late_failed (Some entry) entries settings ticket cause player late =
    ap (λ b. cond b (passed entries settings player entry.uri) (unchanged (broken player ticket cause entry.uri)))
    (late_passes settings.manners cause player.state (player.ticket == ticket) (is_through entries settings player.failures) late)
    ∙ ap unchanged (late_broken ticket cause entry.uri player late)

late_ended : (state : PlayState) (entries : List QueueEntry) (settings : PlaySettings) (player : PlayerState) (ticket : ℕ) →
    (is_stop state || not (player.ticket == ticket)) ≡ true → ended_in state entries settings player ticket ≡ unchanged player
late_ended Stop entries settings player ticket late = refl
late_ended Pause entries settings player ticket late = refl
late_ended Play entries settings player ticket late =
    ap (λ b. cond b (over entries settings settings.options.single player) (unchanged player)) (not_false (player.ticket == ticket) late)

-- the player that stays
player_stays : (m : MachineState) (player : PlayerState) → player ≡ m.player → player_happens player m ≡ nothing_happens m
player_stays m player same =
    ap (λ p. player_happens p m) same ∙ ap (λ changes. record { ops = []; after = m; changed = changes }) (changed_itself m)

step_stays : (m : MachineState) (step : Step) → step ≡ unchanged m.player → happens (steps step m) m ≡ nothing_happens m
step_stays m step same =
    ap (λ s. happens (steps s m) m) same ∙ ap (λ changes. record { ops = []; after = m; changed = changes }) (changed_itself m)

fed_late : (m : MachineState) (ticket frames : ℕ) → is_late ticket m.player ≡ true → when_fed ticket frames m ≡ nothing_happens m
fed_late m ticket frames late = player_stays m _ (late_fed (current_row m.saved m.player) ticket frames m.player late)

-- a step that changes nothing by any settings, with room and without
either_late : (m : MachineState) (step : PlaySettings → Step) → ((settings : PlaySettings) → step settings ≡ unchanged m.player)
    → stepping m step ≡ unchanged m.player
either_late m step stays = of (lacks_room m)
  where
    of : (b : Bool) → cond b (unsaved (step (without_consume (settings_of m.saved)))) (step (settings_of m.saved)) ≡ unchanged m.player
    of true = ap unsaved (stays (without_consume (settings_of m.saved)))
    of false = stays (settings_of m.saved)

ended_late : (m : MachineState) (ticket : ℕ) → is_late ticket m.player ≡ true → when_ended ticket m ≡ nothing_happens m
ended_late m ticket late =
    step_stays m (stepping m (λ settings. ended m.saved.queue.entries settings m.player ticket))
    (either_late m _ (λ settings. late_ended m.player.state m.saved.queue.entries settings m.player ticket late))

broken_late : (m : MachineState) (ticket : ℕ) (cause : BrokenCause) → is_late ticket m.player ≡ true →
    when_broken ticket cause m ≡ nothing_happens m
broken_late m ticket cause late =
    step_stays m (stepping m (λ settings. failed m.saved.queue.entries settings m.player ticket cause))
    (either_late m _ (λ settings. late_failed (current_entry m.saved.queue.entries m.player.current) m.saved.queue.entries settings ticket
    cause m.player late))

-- Events of a scan.
over_runs : (runs same : Bool) → (not runs || not same) ≡ true → (runs && same) ≡ false
over_runs true true h = absurd (false≢true h)
over_runs true false h = refl
over_runs false same h = refl

not_running : (job : ℕ) (m : MachineState) → is_over job m.job ≡ true → is_running job m ≡ false
not_running job m over = over_runs m.job.runs (m.job.number == job) over

-- Clients that are not connected.
absent_one : (c : ℕ) (w : Watched) (ws : List Watched) (b : Bool) →
    is_none (cond b (Some w) (watched ws c)) ≡ true → (is_none (watched ws c) ≡ true → left ws c ≡ ws) →
    cond (not b) (w ∷ left ws c) (left ws c) ≡ w ∷ ws
absent_one c w ws true h rest = absurd (false≢true h)
absent_one c w ws false h rest = ap (λ vs. w ∷ vs) (rest h)

absent : (c : ℕ) (ws : List Watched) → is_none (watched ws c) ≡ true → left ws c ≡ ws
absent c [] h = refl
absent c (w ∷ ws) h = absent_one c w ws (w.client == c) h (absent c ws)

connect_again : (c : ℕ) (s : State) (found : Option Watched) → is_some found ≡ true → connects_client c s found ≡ nothing s
connect_again c s None h = absurd (false≢true h)
connect_again c s (Some w) h = refl

asked_by_none : (c : ℕ) (refused : Option ℕ) (s : State) (request : Request) (found : Option Watched) → is_none found ≡ true →
    requested_by c refused s request (waiting_of found) ≡ nothing s
asked_by_none c refused s request None h = refl
asked_by_none c refused s request (Some w) h = absurd (false≢true h)

-- nothing that happens leaves nothing to keep
kept_none : (s : State) (h : Happening) → h ≡ nothing_happens s.machine → happened s (kept_event s.machine h) ≡ nothing s
kept_none s h none = ap (λ g. happened s (kept_event s.machine g)) none ∙ ap (happened s) (kept_nothing s.machine)

acted_stray : (s : State) (event : Event) (refused : Option ℕ) → is_stray s event ≡ true → acted s event refused ≡ nothing s
acted_stray s (events.Connect c) refused h = connect_again c s (watched s.clients c) h
acted_stray s (events.Request c request) refused h = asked_by_none c refused s request (watched s.clients c) h
acted_stray s (events.Gone c) refused h =
    λ i. nothing (with_pictures (with_messages (with_views (with_clients s (absent c s.clients h i))
    (views_absent (watched s.clients c) s.views c h i)) (messages_absent (watched s.clients c) s.messages c h i))
    (pictures_absent (watched s.clients c) s.pictures c h i))
acted_stray s (events.Fed ticket frames) refused h = ap (happened s) (fed_late s.machine ticket frames h)
acted_stray s (events.Ended ticket) refused h = kept_none s (when_ended ticket s.machine) (ended_late s.machine ticket h)
acted_stray s (events.Broken ticket cause) refused h =
    kept_none s (when_broken ticket cause s.machine) (broken_late s.machine ticket cause h)
acted_stray s (events.Batch job changes) refused h =
    kept_none s (when_found job changes s.machine)
    (ap (λ b. cond b (if_room s.machine (finds (telling s.machine.saved.songs
    (kept_changes s.machine.saved.profile (spared s.machine changes))) s.machine)) (nothing_happens s.machine))
    (not_running job s.machine h))
acted_stray s (events.Missing job songs) refused h =
    ap (λ b. happened s (cond b (misses songs s.machine) (nothing_happens s.machine))) (not_running job s.machine h)
acted_stray s (events.ScanDone job) refused h =
    ap (λ b. happened s (cond b (ends_scan s.machine) (nothing_happens s.machine))) (not_running job s.machine h)
acted_stray s (events.Clock time) refused h = absurd (false≢true h)
acted_stray s (events.Keep ticket) refused h =
    ap (λ b. happened s (cond b (keeps_place s.machine) (nothing_happens s.machine)))
    (late_counts s.machine.player.state s.machine.player.ticket ticket h)
acted_stray s (events.Resume plays) refused h =
    ap (λ b. happened s (cond b (resumes plays s.machine s.machine.saved.place) (nothing_happens s.machine)))
    (not_false (s.machine.player.ticket == 0) h)
acted_stray s (events.Room is_there) refused h = absurd (false≢true h)
acted_stray s (events.Picture c told) refused h =
    λ i. nothing (with_pictures s (unread_absent (watched s.clients c) s.pictures c told h i))

-- a clock tells the time, and nobody is due
pub clock_told : (kept : SavedState) (history : List Entry) (time : ClockTime) (refused : Option ℕ) →
    step (replay kept history) (events.Clock time) refused ≡ stays (clocked time (replay kept history))
unfolding step
clock_told kept history time refused = nothing_told (clocked time (replay kept history)) (quiet kept history)

pub stray : (kept : SavedState) (history : List Entry) (entry : Entry) → is_stray (replay kept history) entry.event ≡ true →
    stepped (replay kept history) entry ≡ stays (replay kept history)
unfolding step
stray kept history entry h =
    ap settles (acted_stray (replay kept history) entry.event entry.refused h)
    ∙ nothing_told (replay kept history) (quiet kept history)
