-- A group of events that is counted, refused, or none.
use Rattle.std.proofs.Common.{◌≡◌, ◌≢◌, ℕ, ◌+◌, ◌≤◌, List, [], ◌∷◌, ◌++◌, length, map, take, drop, Bool, true, false, Result, Ok, Err}
use Rattle.std.proofs.Common.{Some, inl, inr, refl, sym, ◌∙◌, ap, subst, arith}
use Rattle.disk_model.specs.History.{Change}
use Rattle.daemon_core.specs.declared.event.Event.{Event}
use Rattle.daemon_core.specs.Replay.{Entry, stepped}
use Rattle.daemon_core.specs.State.{State}
use Rattle.daemon_core.specs.Step.{Stepped}
use Rattle.live_stage.specs.declared.refusal.LiveError.{LiveError}
use Rattle.live_stage.specs.declared.refusal.LiveError.TheVariants as turns
use Rattle.live_stage.specs.Answer.{Answer}
use Rattle.live_stage.specs.Group.{EndsThere, IsOfFront, asked_by, history_in}
use Rattle.live_stage.specs.Group.{RefusesFront as RefusesFrontOfTurns}
use Rattle.live_stage.specs.LiveState.{LiveState}
use Rattle.live_stage.specs.Numbers.{Numbers}
use Rattle.live_stage.specs.Transcript.{IsTranscript, entry_of, numbers_after, replayed}
use Rattle.live_stage.proofs.TurnLaws.{found_same}
use Rattle.stage_workers.specs.declared.kind.Kind.{Kind}
use Rattle.stage_workers.specs.declared.kind.Kind.TheVariants.{Clients, Player, Scan}
use Rattle.stage_workers.specs.declared.refusal.StageError.{StageError}
use Rattle.stage_workers.specs.Books.{counted, counted_by, events_of}
use Rattle.stage_workers.specs.Group.{FindsNoneOrAll, IsOneGroup, RefusesFront, RefusesFrontOf, passed_by, seen_behind}
use Rattle.stage_workers.specs.LockState.{FindsItsState}
use Rattle.stage_workers.specs.PassState.{AccountState, BooksState, PassState}
use Rattle.stage_workers.specs.Refusals.{refused_by}
use Rattle.stage_workers.proofs.EntryLaws.{next_event}

-- ---- counting

-- one event, and then so many
pub counted_on : (n : ℕ) (kind : Kind) (books : BooksState) → counted_by n kind (counted kind books) ≡ counted_by (1 + n) kind books
counted_on n Clients books =
    let total : books.clients.total + 1 + n ≡ books.clients.total + (1 + n) = omega arith in
    ap (λ (t : ℕ). let b : BooksState = record {
      clients = record { total = t; passes_left = books.clients.passes_left };
      player = books.player;
      scan = books.scan;
    } in b) total
counted_on n Player books =
    let total : books.player.total + 1 + n ≡ books.player.total + (1 + n) = omega arith in
    ap (λ (t : ℕ). let b : BooksState = record {
      clients = books.clients;
      player = record { total = t; passes_left = books.player.passes_left };
      scan = books.scan;
    } in b) total
counted_on n Scan books =
    let total : books.scan.total + 1 + n ≡ books.scan.total + (1 + n) = omega arith in
    ap (λ (t : ℕ). let b : BooksState = record {
      clients = books.clients;
      player = books.player;
      scan = record { total = t; passes_left = books.scan.passes_left };
    } in b) total

pub counted_none : (kind : Kind) (books : BooksState) → counted_by 0 kind books ≡ books
counted_none Clients books =
    let total : books.clients.total + 0 ≡ books.clients.total = omega arith in
    ap (λ (t : ℕ). let b : BooksState = record {
      clients = record { total = t; passes_left = books.clients.passes_left };
      player = books.player;
      scan = books.scan;
    } in b) total
counted_none Player books =
    let total : books.player.total + 0 ≡ books.player.total = omega arith in
    ap (λ (t : ℕ). let b : BooksState = record {
      clients = books.clients;
      player = record { total = t; passes_left = books.player.passes_left };
      scan = books.scan;
    } in b) total
counted_none Scan books =
    let total : books.scan.total + 0 ≡ books.scan.total = omega arith in
    ap (λ (t : ℕ). let b : BooksState = record {
      clients = books.clients;
      player = books.player;
      scan = record { total = t; passes_left = books.scan.passes_left };
    } in b) total

pub many_counted : (n : ℕ) (kind : Kind) (books : BooksState) → events_of (counted_by n kind books) ≡ events_of books + n
many_counted n Clients books = omega arith
many_counted n Player books = omega arith
many_counted n Scan books = omega arith

-- a pass that has made one event, and then these
pub passed_on : (pass : PassState) (t : Answer) (turns : List Answer)
    → passed_by (record { kind = pass.kind; seen = t.event; share = pass.share + 1 }) turns ≡ passed_by pass (t ∷ turns)
passed_on pass t turns =
    let share : pass.share + 1 + length turns ≡ pass.share + length (t ∷ turns) = omega arith in
    ap (λ (n : ℕ). let p : PassState = record { kind = pass.kind; seen = seen_behind t.event turns; share = n } in p) share

pub passed_none : (pass : PassState) → passed_by pass [] ≡ pass
passed_none pass =
    let share : pass.share + 0 ≡ pass.share = omega arith in
    ap (λ (n : ℕ). let p : PassState = record { kind = pass.kind; seen = pass.seen; share = n } in p) share

-- each event of a history has a number
event_after : (s : State) (first : Numbers) (whole : List Entry) → (numbers_after s first whole).event ≡ first.event + length whole
event_after s first [] = omega arith
event_after s first (entry ∷ earlier) =
    let now : Stepped = stepped (replayed s earlier) entry in
    let earlier_is = event_after s first earlier in
    omega (arith, next_event (numbers_after s first earlier) now.ops, earlier_is)

seen_on : {D : Type 0} (first : LiveState D) (earlier : List Entry) (answers : List Answer) (seen : ℕ)
    → (let oks : List (Result Answer LiveError) = map Ok answers in IsTranscript first earlier (asked_by answers) oks)
    → seen ≤ first.numbers.event + length earlier → seen + length answers ≤ seen_behind seen answers
seen_on first earlier [] seen transcript below = omega arith
seen_on first earlier (t ∷ answers) seen transcript below =
    let number = transcript.0.numbered.event in
    let is = event_after first.state first.numbers earlier in
    let more = seen_on first (entry_of t.asked t ∷ earlier) answers t.event transcript.1 (omega (arith, number, is)) in
    omega (arith, number, is, more, below)

pub seen_later : {D : Type 0} (first : LiveState D) (answers : List Answer) (seen : ℕ)
    → (let oks : List (Result Answer LiveError) = map Ok answers in IsTranscript first [] (asked_by answers) oks)
    → seen ≤ first.numbers.event → seen + length answers ≤ seen_behind seen answers
seen_later first answers seen transcript below = seen_on first [] answers seen transcript (omega (arith, below))

-- ---- refusals

-- the first event is refused before anything is done
pub first_refused : {D : Type 0} (old : LiveState D) (events : List Event) (error : StageError)
    → RefusesFrontOf old events error (drop 1 events)
first_refused old [] error = record {
  refuses = record { front = []; parted = refl; some = λ none. none; alone = λ _. omega arith };
  broken = λ _. omega arith;
}
first_refused old (event ∷ events) error = record {
  refuses = record { front = event ∷ []; parted = refl; some = λ _ is. cc is; alone = λ _. omega arith };
  broken = λ _. omega arith;
}

pub front_refused : {D : Type 0} (old : LiveState D) (events rest : List Event) (e : LiveError)
    → RefusesFrontOfTurns old events e rest → RefusesFront events (refused_by e) rest
front_refused old events rest e r = record {
  front = r.front;
  parted = r.parted;
  some = r.some;
  alone = λ other. r.alone (inr (λ is. other (ap refused_by is)));
}

-- a stage that isn't broken
pub front_of_usable : {D : Type 0} (old : LiveState D) (events rest : List Event) (error : StageError) → old.is_broken ≡ false
    → RefusesFront events error rest → RefusesFrontOf old events error rest
front_of_usable old events rest error usable r = record {
  refuses = r;
  broken = λ is. absurd (cc (is, usable));
}

of_first : (events : List Event) → IsOfFront [] events (drop 1 events)
of_first [] = ([], refl)
of_first (event ∷ events) = (event ∷ [], refl)

-- What a stage finds at any moment at which nothing was done.
abbrev pub NothingDone : {D : Type 0} (honest : D → Type 0) (history : D → List Change) (old new : LiveState D) (events rest : List Event) → Type 0
NothingDone honest history old new events rest = honest old.a → honest old.b → old.is_broken ≡ false
    → (whole : List Entry) × IsOfFront whole events rest × FindsNoneOrAll history old new whole

pub nothing_done : {D : Type 0} (honest : D → Type 0) (history : D → List Change) (live : LiveState D) (events rest : List Event)
    → rest ≡ drop 1 events → FindsItsState honest history live → NothingDone honest history live live events rest
nothing_done honest history live events rest is kept = λ ha hb usable. (
  [],
  subst (λ (l : List Event). IsOfFront [] events l) (sym is) (of_first events),
  λ x y at_x at_y. inl (found_same (history live.a) (history live.b) live.state.machine.saved (kept ha hb usable) x y at_x at_y),
)

-- ---- answers

-- Where there are events, some are answered.
pub some_answered : {D : Type 0} (old : LiveState D) (events : List Event) (answers : List Answer) (is_refused : Bool) (rest : List Event)
    → EndsThere old events answers is_refused rest → events ≢ [] → answers ≢ []
some_answered old events (t ∷ answers) is_refused rest ends some = λ is. cc is
some_answered old events [] true rest ends some = (ends.refused refl).0
some_answered old [] [] false [] ends some = λ _. some refl
some_answered old events [] false (event ∷ rest) ends some = λ _. cc (ends.full refl (λ is. cc is))
some_answered old (event ∷ events) [] false [] ends some = λ _. cc ends.parted

-- A pass has seen at least so many events more, where it hadn't seen more than there were.
pub counted_later : {D : Type 0} (honest : D → Type 0) (history : D → List Change) (old new : LiveState D) (answers : List Answer)
    (pass after : PassState) → IsOneGroup honest history old new answers → after ≡ passed_by pass answers → pass.seen ≤ old.numbers.event
    → pass.seen + length answers ≤ after.seen
counted_later honest history old new answers pass after one made below =
    let is : after.seen ≡ seen_behind pass.seen answers = ap (λ (p : PassState). p.seen) made in
    let more = seen_later old answers pass.seen one.group.transcript below in
    omega (arith, is, more)

pub first_refused_as : {D : Type 0} (old : LiveState D) (events rest : List Event) (error : StageError) → rest ≡ drop 1 events
    → RefusesFrontOf old events error rest
first_refused_as old events rest error is =
    subst (λ (l : List Event). RefusesFrontOf old events error l) (sym is) (first_refused old events error)
