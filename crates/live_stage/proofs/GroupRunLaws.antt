-- A run in groups, one group more at a time.
use Rattle.std.proofs.Common.{◌≡◌, ◌⊎◌, inl, inr, ℕ, ◌+◌, ◌≤◌, Bool, true, false, List, [], ◌∷◌, ◌++◌, length, length-append, append_assoc}
use Rattle.std.proofs.Common.{Option, Some, Result, Ok, Err, refl, sym, ap, subst, ◌∙◌, arith}
use Rattle.std.proofs.lemmas.List.{append-nil}
use Rattle.disk_model.specs.History.{Change}
use Rattle.disk_model.specs.Later.{HasFailed}
use Rattle.disk_model.proofs.MomentLaws.{continues_join, continues_same, now_only}
use Rattle.state_codec.specs.SavedState.{SavedState}
use Rattle.daemon_core.specs.declared.event.Event.{Event}
use Rattle.daemon_core.specs.State.{State}
use Rattle.daemon_core.specs.Step.{Stepped}
use Rattle.daemon_core.specs.Replay.{Entry, stepped}
use Rattle.live_stage.specs.declared.refusal.LiveError.{LiveError}
use Rattle.live_stage.specs.declared.refusal.LiveError.TheVariants.{Broken, NoMemory, NumbersSpent}
use Rattle.live_stage.specs.Answer.{Answer, profile_of_step}
use Rattle.live_stage.specs.Found.{given_state, AllFindNow}
use Rattle.live_stage.specs.Group.{events_in}
use Rattle.live_stage.specs.GroupRun.{AddsToFile, FindsPrefixOfGroups, FindsWholeOfGroups, IsGroupsSoFar, IsWholeOfGroups, from_fault, tells_spent}
use Rattle.live_stage.specs.LiveState.{LiveState}
use Rattle.live_stage.specs.Numbers.{AreSpent, most_bytes, most_records, record_bytes}
use Rattle.live_stage.specs.Transcript.{HasRoomFor, IsTranscript, StaysBroken, broken_after, broken_by, bytes_after, entry_of, history_of, numbers_after, replayed}
use Rattle.live_stage.proofs.GroupLaws.{Reply}
use Rattle.live_stage.proofs.HistoryLaws.{history_of_both, numbers_at, replayed_behind, state_at, transcript_at, transcript_parts}
use Rattle.live_stage.proofs.TurnLaws.{IsOtherKept, join_pairs, one_file, other_join, other_same}

is_or_not : (was : Bool) → (was ≡ true) ⊎ (was ≡ false)
is_or_not true = inl refl
is_or_not false = inr refl

-- ---- refusals

-- a broken stage stays so
broken_stays : (answer : Reply) → broken_by true answer ≡ true
broken_stays (Ok t) = refl
broken_stays (Err Broken) = refl
broken_stays (Err NoMemory) = refl
broken_stays (Err NumbersSpent) = refl

-- where a stage is broken, what it answers adds nothing to a history
adds_nothing : (earlier : List Entry) (events : List Event) (answers : List Reply) → StaysBroken true answers
    → history_of earlier events answers ≡ earlier
adds_nothing earlier [] answers h = refl
adds_nothing earlier (event ∷ events) [] h = refl
adds_nothing earlier (event ∷ events) (Ok t ∷ answers) h = (let not = h.0 refl in absurd cc)
adds_nothing earlier (event ∷ events) (Err e ∷ answers) h =
    adds_nothing earlier events answers (subst (λ (b : Bool). StaysBroken b answers) (broken_stays (Err e)) h.1)

-- what it answers is a transcript behind any history
transcript_refused : {D : Type 0} (begun first : LiveState D) (here there : List Entry) (events : List Event) (answers : List Reply)
    → StaysBroken true answers → IsTranscript begun here events answers → IsTranscript first there events answers
transcript_refused begun first here there [] [] h told = tt
transcript_refused begun first here there [] (a ∷ answers) h told = elim told [ ]
transcript_refused begun first here there (event ∷ events) [] h told = elim told [ ]
transcript_refused begun first here there (event ∷ events) (Ok t ∷ answers) h told = (let not = h.0 refl in absurd cc)
transcript_refused begun first here there (event ∷ events) (Err e ∷ answers) h told =
    transcript_refused begun first here there events answers (subst (λ (b : Bool). StaysBroken b answers) (broken_stays (Err e)) h.1) told

broken_parts : (was : Bool) (answers replies : List Reply)
    → broken_after was (answers ++ replies) ≡ broken_after (broken_after was answers) replies
broken_parts was [] replies = refl
broken_parts was (a ∷ answers) replies = broken_parts (broken_by was a) answers replies

stays_parts : (was : Bool) (answers replies : List Reply) → StaysBroken was answers → StaysBroken (broken_after was answers) replies
    → StaysBroken was (answers ++ replies)
stays_parts was [] replies p q = q
stays_parts was (a ∷ answers) replies p q = (p.0, stays_parts (broken_by was a) answers replies p.1 q)

-- ---- the events from a fault on

fault_behind : (events more : List Event) (answers replies : List Reply) → length answers ≡ length events → from_fault events answers ≡ []
    → from_fault (events ++ more) (answers ++ replies) ≡ from_fault more replies
fault_behind [] more [] replies same none = refl
fault_behind [] more (a ∷ answers) replies same none = absurd (omega arith)
fault_behind (e ∷ events) more [] replies same none = absurd (omega arith)
fault_behind (e ∷ events) more (Ok t ∷ answers) replies same none = fault_behind events more answers replies (omega arith) none
fault_behind (e ∷ events) more (Err Broken ∷ answers) replies same none = absurd cc
fault_behind (e ∷ events) more (Err NoMemory ∷ answers) replies same none = fault_behind events more answers replies (omega arith) none
fault_behind (e ∷ events) more (Err NumbersSpent ∷ answers) replies same none = fault_behind events more answers replies (omega arith) none

fault_before : (events more : List Event) (answers replies : List Reply) → length answers ≡ length events
    → broken_after false answers ≡ true → from_fault (events ++ more) (answers ++ replies) ≡ from_fault events answers ++ more
fault_before [] more [] replies same broken = absurd cc
fault_before [] more (a ∷ answers) replies same broken = absurd (omega arith)
fault_before (e ∷ events) more [] replies same broken = absurd (omega arith)
fault_before (e ∷ events) more (Ok t ∷ answers) replies same broken = fault_before events more answers replies (omega arith) broken
fault_before (e ∷ events) more (Err Broken ∷ answers) replies same broken = refl
fault_before (e ∷ events) more (Err NoMemory ∷ answers) replies same broken = fault_before events more answers replies (omega arith) broken
fault_before (e ∷ events) more (Err NumbersSpent ∷ answers) replies same broken = fault_before events more answers replies (omega arith) broken

-- one of the answers of both is `NumbersSpent`
spent_parts : (answers replies : List Reply) → tells_spent (answers ++ replies) ≡ true
    → (tells_spent answers ≡ true) ⊎ (tells_spent replies ≡ true)
spent_parts [] replies is = inr is
spent_parts (Ok t ∷ answers) replies is = spent_parts answers replies is
spent_parts (Err Broken ∷ answers) replies is = spent_parts answers replies is
spent_parts (Err NoMemory ∷ answers) replies is = spent_parts answers replies is
spent_parts (Err NumbersSpent ∷ answers) replies is = inl refl

-- ---- whole histories

none_more : (more : List Entry) (rest : List Event) → events_in more ++ rest ≡ [] → more ≡ []
none_more [] rest none = refl
none_more (entry ∷ earlier) rest none =
    absurd (omega (
      arith,
      ap length none,
      length-append (events_in earlier ++ entry.event ∷ []) rest,
      length-append (events_in earlier) (entry.event ∷ []),
    ))

whole_unbroken : (events : List Event) (answers : List Reply) (whole : List Entry) → from_fault events answers ≡ []
    → IsWholeOfGroups events answers whole → whole ≡ history_of [] events answers
whole_unbroken events answers whole none w =
    w.on_top ∙ ap (λ (m : List Entry). m ++ history_of [] events answers) (none_more w.more w.rest (sym w.front ∙ none))

module _ (s : State) (events more : List Event) (answers replies : List Reply) (counted : length answers ≡ length events) where
  abbrev before : List Entry
  before = history_of [] events answers

  abbrev behind : List Entry
  behind = history_of [] more replies

  both : history_of [] (events ++ more) (answers ++ replies) ≡ behind ++ before
  both = history_of_both events more answers replies counted

  -- what a restart found while the first events were handled it finds of the whole run
  prefix_before : (f : Option SavedState) → from_fault events answers ≡ [] → FindsPrefixOfGroups s events answers f
      → FindsPrefixOfGroups s (events ++ more) (answers ++ replies) f
  prefix_before f none h = record {
    whole = behind ++ h.whole;
    is_whole = record {
      more = [];
      rest = from_fault (events ++ more) (answers ++ replies);
      on_top = ap (λ (w : List Entry). behind ++ w) (whole_unbroken events answers h.whole none h.is_whole) ∙ sym both;
      front = refl;
    };
    later = behind ++ h.later;
    prefix = h.prefix;
    parts = ap (λ (w : List Entry). behind ++ w) h.parts ∙ sym (append_assoc behind h.later h.prefix);
    finds = h.finds;
  }

  whole_behind : (whole : List Entry) → from_fault events answers ≡ [] → IsWholeOfGroups more replies whole
      → IsWholeOfGroups (events ++ more) (answers ++ replies) (whole ++ before)
  whole_behind whole none w = record {
    more = w.more;
    rest = w.rest;
    on_top = ap (λ (l : List Entry). l ++ before) w.on_top ∙ append_assoc w.more behind before
        ∙ ap (λ (l : List Entry). w.more ++ l) (sym both);
    front = fault_behind events more answers replies counted none ∙ w.front;
  }

  found_behind : (begun : State) (whole : List Entry) (f : Option SavedState) → begun ≡ replayed s before
      → (let now = replayed begun whole in f ≡ Some now.machine.saved)
      → (let now = replayed s (whole ++ before) in f ≡ Some now.machine.saved)
  found_behind begun whole f at found =
      found ∙ ap (λ (t : State). Some t.machine.saved) (ap (λ (t : State). replayed t whole) at ∙ sym (replayed_behind s whole before))

  -- and so it does of what was found while the others were
  prefix_behind : (begun : State) (f : Option SavedState) → begun ≡ replayed s before → from_fault events answers ≡ []
      → FindsPrefixOfGroups begun more replies f → FindsPrefixOfGroups s (events ++ more) (answers ++ replies) f
  prefix_behind begun f at none h = record {
    whole = h.whole ++ before;
    is_whole = whole_behind h.whole none h.is_whole;
    later = h.later;
    prefix = h.prefix ++ before;
    parts = ap (λ (w : List Entry). w ++ before) h.parts ∙ append_assoc h.later h.prefix before;
    finds = found_behind begun h.prefix f at h.finds;
  }

  finds_behind : (begun : State) (f : Option SavedState) → begun ≡ replayed s before → from_fault events answers ≡ []
      → FindsWholeOfGroups begun more replies f → FindsWholeOfGroups s (events ++ more) (answers ++ replies) f
  finds_behind begun f at none h = record {
    whole = h.whole ++ before;
    is_whole = whole_behind h.whole none h.is_whole;
    finds = found_behind begun h.whole f at h.finds;
  }

  -- a broken stage refused the others
  whole_broken : (whole : List Entry) → broken_after false answers ≡ true → StaysBroken true replies → IsWholeOfGroups events answers whole
      → IsWholeOfGroups (events ++ more) (answers ++ replies) whole
  whole_broken whole broken refused w = record {
    more = w.more;
    rest = w.rest ++ more;
    on_top = w.on_top
        ∙ ap (λ (l : List Entry). w.more ++ l) (sym (both ∙ ap (λ (l : List Entry). l ++ before) (adds_nothing [] more replies refused)));
    front = fault_before events more answers replies counted broken ∙ ap (λ (l : List Event). l ++ more) w.front
        ∙ append_assoc (events_in w.more) w.rest more;
  }

  prefix_broken : (f : Option SavedState) → broken_after false answers ≡ true → StaysBroken true replies
      → FindsPrefixOfGroups s events answers f → FindsPrefixOfGroups s (events ++ more) (answers ++ replies) f
  prefix_broken f broken refused h = record {
    whole = h.whole;
    is_whole = whole_broken h.whole broken refused h.is_whole;
    later = h.later;
    prefix = h.prefix;
    parts = h.parts;
    finds = h.finds;
  }

  finds_broken : (f : Option SavedState) → broken_after false answers ≡ true → StaysBroken true replies
      → FindsWholeOfGroups s events answers f → FindsWholeOfGroups s (events ++ more) (answers ++ replies) f
  finds_broken f broken refused h =
      record { whole = h.whole; is_whole = whole_broken h.whole broken refused h.is_whole; finds = h.finds }

-- ---- room

pub bytes_behind : (s : State) (later earlier : List Entry)
    → bytes_after s (later ++ earlier) ≡ bytes_after s earlier + bytes_after (replayed s earlier) later
bytes_behind s [] earlier = omega arith
bytes_behind s (e ∷ later) earlier =
    let more = bytes_behind s later earlier in
    let same = ap (λ (t : State). let now : Stepped = stepped t e in record_bytes (profile_of_step now) now.ops) (replayed_behind s later earlier) in
    omega (arith, more, same)

module _ {D : Type 0} (first old : LiveState D) (events more : List Event) (answers replies : List Reply)
    (counted : length answers ≡ length events) (room : HasRoomFor first (events ++ more) (answers ++ replies)) where
  less_room : HasRoomFor first events answers
  less_room =
      let both = ap (bytes_after first.state) (history_of_both events more answers replies counted) in
      let parts = bytes_behind first.state (history_of [] more replies) (history_of [] events answers) in
      record {
        records = omega (arith, room.records, length-append events more);
        bytes = omega (arith, room.bytes, both, parts);
      }

  room_behind : old.is_broken ≡ false → old.state ≡ replayed first.state (history_of [] events answers) → AddsToFile first old events answers
      → HasRoomFor old more replies
  room_behind usable at was =
      let both = ap (bytes_after first.state) (history_of_both events more answers replies counted) in
      let parts = bytes_behind first.state (history_of [] more replies) (history_of [] events answers) in
      let few = was.few usable in
      let short = was.short usable in
      let limit = ap most_bytes (was.behind usable) in
      let most : most_records old.file.layout old.file.snapshot_len ≡ most_records first.file.layout first.file.snapshot_len =
      ap (λ (n : ℕ). most_records n old.file.snapshot_len) (was.laid usable)
      ∙ ap (λ (n : ℕ). most_records first.file.layout n) (was.behind usable) in
      let same = ap (λ (t : State). bytes_after t (history_of [] more replies)) at in
      record {
        records = omega (arith, room.records, few, most, length-append events more);
        bytes = omega (arith, room.bytes, both, parts, short, limit, same);
      }

-- ---- groups behind one another

-- nothing was done yet
pub begins : {D : Type 0} (honest : D → Type 0) (history : D → List Change) (first : LiveState D)
    → (honest first.a → honest first.b → first.is_broken ≡ false
    → AllFindNow (λ f. f ≡ Some first.state.machine.saved) (history first.a) (history first.b))
    → IsGroupsSoFar honest history first first [] []
begins honest history first kept = record {
  counted = refl;
  transcript = tt;
  orderly = tt;
  broken = refl;
  stays = λ was. refl;
  spent = λ tells is. absurd cc;
  stays_spent = λ usable is. refl;
  unbroken = λ is. (refl, is);
  state = λ is. refl;
  event = omega arith;
  numbers = λ is. refl;
  in_file = λ room usable. record {
    other_file = other_same first.is_in_b first;
    same_file = refl;
    few = λ is. omega arith;
    short = λ is. omega arith;
    behind = λ is. refl;
    laid = λ is. refl;
  };
  kept = kept;
  given_out = λ ha hb usable x y at_x at_y. record {
    whole = [];
    is_whole = record { more = []; rest = []; on_top = refl; front = refl };
    finds = kept ha hb usable x y at_x at_y;
  };
  any_moment = λ ha hb usable room x y at_x at_y. record {
    whole = [];
    is_whole = record { more = []; rest = []; on_top = refl; front = refl };
    later = [];
    prefix = [];
    parts = refl;
    finds = kept ha hb usable x y (now_only (history first.a) x at_x) (now_only (history first.b) y at_y);
  };
  continues_a = λ ha. continues_same (history first.a);
  continues_b = λ hb. continues_same (history first.b);
  honest_a = (λ h. h, λ h. h);
  honest_b = (λ h. h, λ h. h);
}

module _ {D : Type 0} (honest : D → Type 0) (history : D → List Change) (first old new : LiveState D) (events more : List Event)
    (answers replies : List Reply) (r : IsGroupsSoFar honest history first old events answers)
    (n : IsGroupsSoFar honest history old new more replies) where
  counts : length (answers ++ replies) ≡ length (events ++ more)
  counts = omega (arith, r.counted, n.counted, length-append answers replies, length-append events more)

  orderly_all : StaysBroken first.is_broken (answers ++ replies)
  orderly_all = stays_parts first.is_broken answers replies r.orderly (subst (λ (b : Bool). StaysBroken b replies) r.broken n.orderly)

  broken_all : new.is_broken ≡ broken_after first.is_broken (answers ++ replies)
  broken_all = n.broken ∙ ap (λ (b : Bool). broken_after b replies) r.broken ∙ sym (broken_parts first.is_broken answers replies)

  -- the stage was broken before
  joins_broken : old.is_broken ≡ true → IsGroupsSoFar honest history first old (events ++ more) (answers ++ replies)
  joins_broken was =
      let refused : StaysBroken true replies = subst (λ (b : Bool). StaysBroken b replies) was n.orderly in
      let whole : List Entry = history_of [] events answers in
      let same : history_of [] (events ++ more) (answers ++ replies) ≡ whole =
      history_of_both events more answers replies r.counted ∙ ap (λ (l : List Entry). l ++ whole) (adds_nothing [] more replies refused) in
      let fault : first.is_broken ≡ false → broken_after false answers ≡ true =
      λ usable. ap (λ (b : Bool). broken_after b answers) (sym usable) ∙ sym r.broken ∙ was in
      record {
        counted = counts;
        transcript = transcript_parts first [] events more answers replies r.transcript
            (transcript_refused old first [] whole more replies refused n.transcript);
        orderly = orderly_all;
        broken = sym (ap (λ (v : LiveState D). v.is_broken) (n.stays was)) ∙ broken_all;
        stays = r.stays;
        spent = λ tells is. absurd cc;
        stays_spent = r.stays_spent;
        unbroken = λ is. absurd cc;
        state = λ is. absurd cc;
        event = r.event ∙ ap (λ (h : List Entry). first.numbers.event + length h) (sym same);
        numbers = λ is. absurd cc;
        in_file = λ room usable.
            let file = r.in_file (less_room first old events more answers replies r.counted room) usable in
            record {
              other_file = file.other_file;
              same_file = file.same_file;
              few = λ is. absurd cc;
              short = λ is. absurd cc;
              behind = λ is. absurd cc;
              laid = λ is. absurd cc;
            };
        kept = λ ha hb is. absurd cc;
        given_out = λ ha hb usable x y at_x at_y. finds_broken first.state events more answers replies r.counted (given_state x y) (fault usable)
            refused (r.given_out ha hb usable x y at_x at_y);
        any_moment = λ ha hb usable room x y at_x at_y. prefix_broken first.state events more answers replies r.counted (given_state x y)
            (fault usable) refused
            (r.any_moment ha hb usable (less_room first old events more answers replies r.counted room) x y at_x at_y);
        continues_a = r.continues_a;
        continues_b = r.continues_b;
        honest_a = r.honest_a;
        honest_b = r.honest_b;
      }

  -- what both add to the file
  file_all : old.is_broken ≡ false → first.is_broken ≡ false → HasRoomFor first (events ++ more) (answers ++ replies)
      → AddsToFile first new (events ++ more) (answers ++ replies)
  file_all usable first_usable room =
      let at = r.state usable in
      let was = r.in_file (less_room first old events more answers replies r.counted room) first_usable in
      let now = n.in_file (room_behind first old events more answers replies r.counted room usable at was) usable in
      let both = ap (bytes_after first.state) (history_of_both events more answers replies r.counted) in
      let parts = bytes_behind first.state (history_of [] more replies) (history_of [] events answers) in
      let same = ap (λ (t : State). bytes_after t (history_of [] more replies)) at in
      let few = was.few usable in
      let short = was.short usable in
      record {
        other_file = other_join first.is_in_b first old new was.other_file
            (subst (λ (in_b : Bool). IsOtherKept in_b old new) was.same_file now.other_file);
        same_file = now.same_file ∙ was.same_file;
        few = λ is. (let more_few = now.few is in omega (arith, few, more_few, length-append events more));
        short = λ is. (let more_short = now.short is in omega (arith, short, more_short, both, parts, same));
        behind = λ is. now.behind is ∙ was.behind usable;
        laid = λ is. now.laid is ∙ was.laid usable;
      }

  -- it wasn't
  joins_unbroken : old.is_broken ≡ false → IsGroupsSoFar honest history first new (events ++ more) (answers ++ replies)
  joins_unbroken usable =
      let fine = r.unbroken usable in
      let whole : List Entry = history_of [] events answers in
      let later : List Entry = history_of [] more replies in
      let at = r.state usable in
      let counted = r.numbers usable in
      let both = history_of_both events more answers replies r.counted in
      record {
        counted = counts;
        transcript = transcript_parts first [] events more answers replies r.transcript
            (transcript_at first old whole at counted [] more replies n.transcript);
        orderly = orderly_all;
        broken = broken_all;
        stays = λ was. (let not = fine.1 in absurd cc);
        spent = λ tells is. elim (spent_parts answers replies tells) [
          | inl before ↦
              let spent = r.spent before usable in
              subst (λ (v : LiveState D). AreSpent v.numbers v.file) (sym (n.stays_spent usable spent)) spent
          | inr now ↦ n.spent now is
        ];
        stays_spent = λ first_usable is.
            let same = r.stays_spent first_usable is in
            n.stays_spent usable (subst (λ (v : LiveState D). AreSpent v.numbers v.file) (sym same) is) ∙ same;
        unbroken = λ is. (fault_behind events more answers replies r.counted fine.0 ∙ (n.unbroken is).0, fine.1);
        state = λ is. n.state is ∙ state_at first old whole at counted later ∙ sym (ap (replayed first.state) both);
        event = (
            let before = r.event in
            let now = n.event in
            omega (arith, before, now, ap length both, length-append later whole)
            );
        numbers = λ is. n.numbers is ∙ numbers_at first old whole at counted later ∙ sym (ap (numbers_after first.state first.numbers) both);
        in_file = λ room first_usable. file_all usable fine.1 room;
        kept = λ ha hb is. n.kept (r.honest_a.0 ha) (r.honest_b.0 hb) is;
        given_out = λ ha hb first_usable x y at_x at_y. finds_behind first.state events more answers replies r.counted old.state (given_state x y)
            at fine.0 (n.given_out (r.honest_a.0 ha) (r.honest_b.0 hb) usable x y at_x at_y);
        any_moment = λ ha hb first_usable room.
            let file = r.in_file (less_room first old events more answers replies r.counted room) fine.1 in
            join_pairs (FindsPrefixOfGroups first.state (events ++ more) (answers ++ replies)) (history first.a) (history old.a)
            (history new.a) (history first.b) (history old.b) (history new.b)
            (r.continues_a ha) (n.continues_a (r.honest_a.0 ha)) (r.continues_b hb) (n.continues_b (r.honest_b.0 hb))
            (one_file history first.is_in_b first new (let all = file_all usable fine.1 room in all.other_file))
            (λ still x y at_x at_y. prefix_before first.state events more answers replies r.counted (given_state x y) fine.0
            (r.any_moment ha hb first_usable (less_room first old events more answers replies r.counted room) x y at_x at_y))
            (λ x y at_x at_y. prefix_behind first.state events more answers replies r.counted old.state (given_state x y) at fine.0
            (n.any_moment (r.honest_a.0 ha) (r.honest_b.0 hb) usable
            (room_behind first old events more answers replies r.counted room usable at file) x y at_x at_y));
        continues_a = λ ha. continues_join (history first.a) (history old.a) (history new.a) (r.continues_a ha)
            (n.continues_a (r.honest_a.0 ha));
        continues_b = λ hb. continues_join (history first.b) (history old.b) (history new.b) (r.continues_b hb)
            (n.continues_b (r.honest_b.0 hb));
        honest_a = (λ h. n.honest_a.0 (r.honest_a.0 h), λ h. r.honest_a.1 (n.honest_a.1 h));
        honest_b = (λ h. n.honest_b.0 (r.honest_b.0 h), λ h. r.honest_b.1 (n.honest_b.1 h));
      }

  pub joins : IsGroupsSoFar honest history first new (events ++ more) (answers ++ replies)
  joins = elim (is_or_not old.is_broken) [
    | inl was ↦ subst (λ (v : LiveState D). IsGroupsSoFar honest history first v (events ++ more) (answers ++ replies)) (sym (n.stays was))
        (joins_broken was)
    | inr usable ↦ joins_unbroken usable
  ]

-- ---- faults

-- a disk has failed since
abbrev pub HasFailedBetween : {D : Type 0} → (D → ℕ) → LiveState D → LiveState D → Type 0
HasFailedBetween faults old new = HasFailed faults old.a old.b new.a new.b

-- a stage that broke in a run has met a disk fault in it
pub fails_on : {D : Type 0} (faults : D → ℕ) (first old new : LiveState D) → faults first.a ≤ faults old.a → faults first.b ≤ faults old.b
    → (old.is_broken ≡ true → new ≡ old) → (old.is_broken ≡ true → HasFailedBetween faults first old)
    → (old.is_broken ≡ false → HasFailedBetween faults old new) → HasFailedBetween faults first new
fails_on {D} faults first old new later_a later_b stays before now = elim (is_or_not old.is_broken) [
  | inl was ↦ subst (λ (v : LiveState D). HasFailedBetween faults first v) (sym (stays was)) (before was)
  | inr usable ↦ elim (now usable) [
    | inl grown ↦ inl (λ fits. omega (arith, later_a, grown fits))
    | inr grown ↦ inr (λ fits. omega (arith, later_b, grown fits))
  ]
]

-- no event is left
pub whole_run : {D : Type 0} (honest : D → Type 0) (history : D → List Change) (first now : LiveState D) (events done rest : List Event)
    (answers : List Reply) → done ++ rest ≡ events → rest ≡ [] → IsGroupsSoFar honest history first now done answers
    → IsGroupsSoFar honest history first now events answers
whole_run honest history first now events done rest answers all none so_far =
    subst (λ (l : List Event). IsGroupsSoFar honest history first now l answers)
    (sym (append-nil done) ∙ ap (λ (l : List Event). done ++ l) (sym none) ∙ all) so_far
