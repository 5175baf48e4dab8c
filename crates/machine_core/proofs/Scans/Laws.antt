-- What the events of a scan keep: their op rebuilds the saved half, and the changed subsystems are told.
use Rattle.std.proofs.Common.{◌≡◌, ℕ, ◌≤◌, Bool, true, false, cond, not, ◌&&◌, ◌==◌, List, [], ◌∷◌, ◌++◌, length, filter}
use Rattle.std.proofs.Common.{Option, Some, None, refl, sym, ap, ◌∙◌, arith, if◌then◌else◌}
use Rattle.std.proofs.lemmas.Bool.{and_from, eqb-true, eqb-false, le-leb}
use Rattle.std.specs.List.{list_any}
use Rattle.std.specs.Option.{ok_or, option_eq}
use Rattle.std.specs.Result.{result_ok}
use Rattle.std.specs.Str.{bytes_eq}
use Rattle.std.specs.Prelude.{nat_le}
use Rattle.idle_masks.specs.Subsystems.{none}
use Rattle.idle_masks.specs.declared.subsystem.Subsystems.{Subsystems}
use Rattle.play_queue.specs.Entries.{Uris, is_among}
use Rattle.song_db.specs.Scan.{drops_of}
use Rattle.song_db.specs.declared.change.RowChange.{RowChange}
use Rattle.state_codec.specs.Applied.{refusal_of, after, after_all, all_applied, applied_from}
use Rattle.state_codec.specs.Applied.{unless_refused as unless_op_refused}
use Rattle.state_codec.specs.Changes.{is_count}
use Rattle.state_codec.specs.OpsRows.{without_songs}
use Rattle.state_codec.specs.OpsSettings.{same_flag}
use Rattle.state_codec.specs.SavedState.{SavedState}
use Rattle.state_codec.specs.Spelling.{body_bytes}
use Rattle.state_codec.specs.Steps.{◌>>=◌}
use Rattle.state_codec.specs.declared.op.Op.{Op}
use Rattle.state_codec.specs.declared.op.Op.TheVariants.{Batch}
use Rattle.state_codec.proofs.OpsUnchanged.{op_refused}
use Rattle.stickers.specs.Sticker.{Sticker}
use Rattle.machine_core.specs.Before.{before_of, changed_since, is_of_lists, keeps_job}
use Rattle.machine_core.specs.Changed.{same_job, same_lists, same_options, same_playing, same_stickers, changed}
use Rattle.machine_core.specs.Followed.{Following, current_row, cut_to, follows_batch, no_block, of_step, step_as_they_leave}
use Rattle.player_core.specs.Player.{PlayerState}
use Rattle.machine_core.specs.Happening.{HasHappened, if_room, nothing_happens}
use Rattle.machine_core.specs.Meaning.{order_ops}
use Rattle.machine_core.specs.Size.{max_request_bytes}
use Rattle.machine_core.specs.Scanning.{after_job, is_running, found_a_change, when_scanned, kept_changes, spared, telling, changes_rows}
use Rattle.machine_core.specs.Scanning.{finds, when_found}
use Rattle.machine_core.specs.State.{MachineState, lacks_room}
use Rattle.machine_core.specs.declared.changed.Before.{Before}
use Rattle.machine_core.specs.declared.happened.Happened.{Happened}
use Rattle.machine_core.proofs.Sizes.{none_short}
use Rattle.machine_core.proofs.SameParts.{lists_decide, stickers_decide, text_itself, told_same}

-- where playlists stay, the values of before tell what changed but the job
told_but_job : (m n : MachineState) (before : Before) (ops : List Op) (stuck update : Bool) → before ≡ before_of m
    → list_any is_of_lists ops ≡ false → n.saved.lists ≡ m.saved.lists → stuck ≡ not (same_stickers m.saved.stickers n.saved.stickers)
    → record (changed_since before ops n) { update = update; sticker = stuck } ≡ record (changed m n) { update = update }
unfolding changed
told_but_job m n before ops stuck update is no_list lists stickers =
    ap (λ (b : Before). record (changed_since b ops n) { update = update; sticker = stuck }) is ∙ (λ i. record {
      database = false;
      update = update;
      stored_playlist = told i;
      playlist = not (m.saved.queue.version == n.saved.queue.version);
      player = not (same_playing m.player n.player);
      mixer = not (m.saved.volume == n.saved.volume);
      options = not (same_options m.saved.options n.saved.options);
      sticker = stickers i;
      subscription = false;
      message = false;
    })
  where
    told : list_any is_of_lists ops ≡ not (same_lists m.saved.lists n.saved.lists)
    told = no_list ∙ sym (told_same m.saved.lists n.saved.lists _ (lists_decide m.saved.lists n.saved.lists) (sym lists))

-- and where its place stays, the job too
pub event_told : (m n : MachineState) (before : Before) (ops : List Op) (stuck : Bool) → before ≡ before_of m
    → list_any is_of_lists ops ≡ false → n.saved.lists ≡ m.saved.lists → n.job.place ≡ m.job.place
    → stuck ≡ not (same_stickers m.saved.stickers n.saved.stickers)
    → record (changed_since before ops n) { sticker = stuck } ≡ changed m n
unfolding changed
event_told m n before ops stuck is no_list lists place stickers =
    told_but_job m n before ops stuck (not (keeps_job before n)) is no_list lists stickers
    ∙ ap (λ (b : Before). record (changed m n) { update = not (keeps_job b n) }) is
    ∙ ap (λ (same : Bool). record (changed m n) { update = not same }) job
  where
    same_place : option_eq bytes_eq m.job.place n.job.place ≡ true
    same_place = ap (option_eq bytes_eq m.job.place) place ∙ text_itself m.job.place

    job : (m.job.number == n.job.number && same_flag m.job.runs n.job.runs) ≡ same_job m.job n.job
    job = sym (ap (λ (t : Bool). m.job.number == n.job.number && (t && same_flag m.job.runs n.job.runs)) same_place)

-- the end of a scan
pub scan_ended : (job : ℕ) (m n : MachineState) (before : Before) (happened : Happened) → is_running job m ≡ true
    → n ≡ after_job m → before ≡ before_of m → happened.ops.items ≡ []
    → happened.changed ≡ record (changed_since before [] n) { update = true; database = m.job.has_changed_a_row }
    → HasHappened (when_scanned job m) m n happened
scan_ended job m n before happened running state is ops told = rw running (record {
  state = state;
  ops = ops;
  changed = told ∙ ap (λ (s : Subsystems). record s { database = m.job.has_changed_a_row }) changes;
  rebuilt = refl;
  fits = none_short m.saved.profile;
})
  where
    changes : record (changed_since before [] n) { update = true } ≡ record (changed m (after_job m)) { update = true }
    changes =
        ap (λ (k : MachineState). record (changed_since before [] k) { update = true }) state
        ∙ told_but_job m (after_job m) before [] false true is refl refl
        (sym (told_same m.saved.stickers m.saved.stickers _ (stickers_decide m.saved.stickers m.saved.stickers) refl))

-- a filter that leaves as many leaves all
filter_few : {X : Type 0} (test : X → Bool) (xs : List X) → length (filter test xs) ≤ length xs
filter_few test [] = omega arith
filter_few test (x ∷ xs) = of (test x) refl (filter_few test xs)
  where
    of : (b : Bool) → test x ≡ b → length (filter test xs) ≤ length xs → length (filter test (x ∷ xs)) ≤ length (x ∷ xs)
    of true is few = rw is (omega (arith, few))
    of false is few = rw is (omega (arith, few))

filter_all : {X : Type 0} (test : X → Bool) (xs : List X) → length (filter test xs) ≡ length xs → filter test xs ≡ xs
filter_all test [] same = refl
filter_all test (x ∷ xs) same = of (test x) refl same (filter_all test xs) (filter_few test xs)
  where
    of : (b : Bool) → test x ≡ b → length (filter test (x ∷ xs)) ≡ length (x ∷ xs)
        → (length (filter test xs) ≡ length xs → filter test xs ≡ xs) → length (filter test xs) ≤ length xs
        → filter test (x ∷ xs) ≡ x ∷ xs
    of true is same rest few =
        let long : length (x ∷ filter test xs) ≡ length (x ∷ xs) = rw is at same in
        rw is (ap (λ ys. x ∷ ys) (rest (omega (arith, long))))
    of false is same rest few =
        let long : length (filter test xs) ≡ length (x ∷ xs) = rw is at same in
        absurd (omega (arith, long, few))

-- how many stickers there are tells whether some went
pub count_tells : (all : List Sticker) (uris : Uris)
    → not (length all == length (without_songs all uris)) ≡ not (same_stickers all (without_songs all uris))
count_tells all uris = ap not (of (length all == length left) refl)
  where
    left : List Sticker
    left = without_songs all uris

    of : (b : Bool) → (length all == length left) ≡ b → b ≡ same_stickers all left
    of true is =
        let same : left ≡ all =
        filter_all (λ sticker. not (is_among uris sticker.uri)) all (sym (eqb-true (length all) (length left) is)) in
        sym ((stickers_decide all left).1 (sym same))
    of false is = sides (same_stickers all left) refl
      where
        sides : (c : Bool) → same_stickers all left ≡ c → false ≡ c
        sides false h = refl
        sides true h =
            let equal : all ≡ left = (stickers_decide all left).0 h in
            absurd (eqb-false (length all) (length left) is (ap length equal))

-- the op of a batch, behind a new random order or not
abbrev done : List RowChange → Option ℕ → SavedState → SavedState
done changes order s = after_all (order_ops order ++ Batch changes ∷ []) s

-- the order stands apart from the rows
order_stands : (changes : List RowChange) (order : Option ℕ) (s : SavedState)
    → after_all (order_ops order) (after (Batch changes) s) ≡ done changes order s
order_stands changes None s = refl
order_stands changes (Some g) s = refl

-- the rows were changed first, and then the new random order began
pub batch_made : (changes : List RowChange) (m n : MachineState) (next : Following) (saved : SavedState) (player : PlayerState)
    → next ≡ of_step (step_as_they_leave no_block (drops_of changes) m)
    → n ≡ record m { saved = after (Batch changes) m.saved } → saved ≡ after_all (order_ops next.order) n.saved
    → player ≡ cut_to (current_row n.saved next.player) next.player
    → record n { saved = saved; player = player; job = found_a_change n.job } ≡ (changes_rows changes m).after
batch_made changes m n next saved player is stands kept cut =
    (λ i. record n { saved = kept i; player = cut i; job = found_a_change n.job })
    ∙ (λ i. record (stands i) {
      saved = after_all (order_ops (is i).order) (stands i).saved;
      player = cut_to (current_row (stands i).saved (is i).player) (is i).player;
      job = found_a_change (stands i).job;
    })
    ∙ ap (λ (s : SavedState). record m { saved = s; player = (follows_batch changes m).player; job = found_a_change m.job })
    (order_stands changes (of_step (step_as_they_leave no_block (drops_of changes) m)).order m.saved)

pub no_list_op : (changes : List RowChange) (order : Option ℕ) → list_any is_of_lists (order_ops order ++ Batch changes ∷ []) ≡ false
no_list_op changes None = refl
no_list_op changes (Some g) = refl

pub lists_stay : (changes : List RowChange) (order : Option ℕ) (s : SavedState) → (done changes order s).lists ≡ s.lists
lists_stay changes None s = refl
lists_stay changes (Some g) s = refl

pub stickers_left : (changes : List RowChange) (order : Option ℕ) (s : SavedState)
    → (done changes order s).stickers ≡ without_songs s.stickers (drops_of changes)
stickers_left changes None s = refl
stickers_left changes (Some g) s = refl

pub rebuilt_by : (changes : List RowChange) (order : Option ℕ) (s : SavedState) → refusal_of (Batch changes) s ≡ None
    → all_applied (order_ops order ++ Batch changes ∷ []) s ≡ Some (done changes order s)
rebuilt_by changes None s free =
    ap (λ r. result_ok (ok_or (unless_op_refused r (after (Batch changes) s)) 0 >>= λ t. applied_from 1 [] t)) free
rebuilt_by changes (Some g) s free =
    ap (λ r. result_ok (ok_or (unless_op_refused r (after (Batch changes) (record s { order = g }))) 1 >>= λ t. applied_from 2 [] t))
    (op_refused (Batch changes) g s ∙ free)

-- a batch that was made, and what it told
pub rows_changed : (changes : List RowChange) (m n : MachineState) (before : Before) (happened : Happened)
    → refusal_of (Batch changes) m.saved ≡ None → n ≡ (changes_rows changes m).after → before ≡ before_of m
    → happened.ops.items ≡ (changes_rows changes m).ops
    → happened.changed ≡ record (changed_since before happened.ops.items n)
    { sticker = not (length m.saved.stickers == length n.saved.stickers) }
    → length (body_bytes m.saved.profile (changes_rows changes m).ops) ≤ max_request_bytes
    → HasHappened (changes_rows changes m) m n happened
rows_changed changes m n before happened free state is ops told fits = record {
  state = state;
  ops = ops;
  changed = told
      ∙ (λ i. record (changed_since before (ops i) (state i)) {
        sticker = not (length m.saved.stickers == length (state i).saved.stickers);
      })
      ∙ event_told m after_it before (changes_rows changes m).ops _ is (no_list_op changes order) (lists_stay changes order m.saved) refl
      (ap (λ (l : List Sticker). not (length m.saved.stickers == length l)) left
      ∙ count_tells m.saved.stickers (drops_of changes)
      ∙ ap (λ (l : List Sticker). not (same_stickers m.saved.stickers l)) (sym left));
  rebuilt = rebuilt_by changes order m.saved free;
  fits = fits;
}
  where
    order : Option ℕ
    order = (follows_batch changes m).order

    after_it : MachineState
    after_it = (changes_rows changes m).after

    left : after_it.saved.stickers ≡ without_songs m.saved.stickers (drops_of changes)
    left = stickers_left changes order m.saved

-- what is found by a job that runs
pub found_is : (job : ℕ) (changes : List RowChange) (m : MachineState) → is_running job m ≡ true → lacks_room m ≡ false
    → when_found job changes m ≡ finds (telling m.saved.songs (kept_changes m.saved.profile (spared m changes))) m
found_is job changes m running room =
    let rows = finds (telling m.saved.songs (kept_changes m.saved.profile (spared m changes))) m in
    ap (λ (b : Bool). cond b (if_room m rows) (nothing_happens m)) running ∙ ap (λ (b : Bool). cond b (nothing_happens m) rows) room

-- and where there is no room nothing happens
pub none_found : (job : ℕ) (changes : List RowChange) (m : MachineState) → is_running job m ≡ true → lacks_room m ≡ true
    → when_found job changes m ≡ nothing_happens m
none_found job changes m running lacks =
    let rows = finds (telling m.saved.songs (kept_changes m.saved.profile (spared m changes))) m in
    ap (λ (b : Bool). cond b (if_room m rows) (nothing_happens m)) running ∙ ap (λ (b : Bool). cond b (nothing_happens m) rows) lacks

-- changes of which some tell something
pub some_told : (made : Option (List RowChange)) (changes told : List RowChange) (m : MachineState)
    → made ≡ (if is_count (length changes) then Some changes else None) → made ≡ Some told
    → (told ≡ changes) × (finds told m ≡ changes_rows told m)
some_told made [] told m is some = absurd (let none : None ≡ Some told = sym is ∙ some in cc)
some_told made (change ∷ changes) told m is some =
    let same : told ≡ change ∷ changes = of (is_count (length (change ∷ changes))) (sym is ∙ some) in
    (same, ap (λ (t : List RowChange). finds t m) same ∙ ap (λ (t : List RowChange). changes_rows t m) (sym same))
  where
    of : (b : Bool) → (if b then Some (change ∷ changes) else None) ≡ Some told → told ≡ change ∷ changes
    of true h = cc
    of false h = absurd (cc)

-- and of which none do
pub none_told : (made : Option (List RowChange)) (changes : List RowChange)
    → made ≡ (if is_count (length changes) then Some changes else None) → made ≡ None → length changes ≤ 64 → changes ≡ []
none_told made [] is none few = refl
none_told made (change ∷ changes) is none few =
    let count : is_count (length (change ∷ changes)) ≡ true =
    and_from (nat_le 1 (length (change ∷ changes))) (nat_le (length (change ∷ changes)) 64)
    (le-leb 1 (length (change ∷ changes)) (omega arith)) (le-leb (length (change ∷ changes)) 64 few) in
    let some : made ≡ Some (change ∷ changes) = rw count at is in
    absurd (let clash : None ≡ Some (change ∷ changes) = sym none ∙ some in cc)

pub nothing_happened : (m : MachineState) (happened : Happened) → happened.ops.items ≡ [] → happened.changed ≡ none
    → HasHappened (nothing_happens m) m m happened
nothing_happened m happened ops told = record { state = refl; ops = ops; changed = told; rebuilt = refl; fits = none_short m.saved.profile }
