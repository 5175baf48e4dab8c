-- Runs and groups that follow one another, as one history.
use Rattle.std.proofs.Common.{◌≡◌, ℕ, ◌+◌, List, [], ◌∷◌, ◌++◌, map, length, length-append, append_assoc, Result, Ok, Err}
use Rattle.std.proofs.Common.{refl, sym, ap, subst, ◌∙◌, arith}
use Rattle.std.proofs.lemmas.List.{append-nil}
use Rattle.daemon_core.specs.declared.event.Event.{Event}
use Rattle.daemon_core.specs.State.{State}
use Rattle.daemon_core.specs.Step.{Stepped}
use Rattle.daemon_core.specs.Replay.{Entry, stepped}
use Rattle.live_stage.specs.Answer.{Answer, IsNumbered}
use Rattle.live_stage.specs.Group.{BearTheirStates, IsGroup, IsOneHistory, asked_by, history_in}
use Rattle.live_stage.specs.LiveState.{LiveState}
use Rattle.live_stage.specs.Numbers.{Numbers, next_numbers}
use Rattle.live_stage.specs.Transcript.{IsStepOf, IsTranscript, entry_of, history_of, numbers_after, replayed}
use Rattle.live_stage.proofs.GroupLaws.{Reply}

-- ---- histories behind one another

pub replayed_behind : (s : State) (later earlier : List Entry) → replayed s (later ++ earlier) ≡ replayed (replayed s earlier) later
replayed_behind s [] earlier = refl
replayed_behind s (e ∷ later) earlier = ap (λ (t : State). let now : Stepped = stepped t e in now.after) (replayed_behind s later earlier)

pub numbers_behind : (s : State) (first : Numbers) (later earlier : List Entry)
    → numbers_after s first (later ++ earlier) ≡ numbers_after (replayed s earlier) (numbers_after s first earlier) later
numbers_behind s first [] earlier = refl
numbers_behind s first (e ∷ later) earlier =
    ap (λ (t : State). let now : Stepped = stepped t e in next_numbers (numbers_after s first (later ++ earlier)) now.ops)
    (replayed_behind s later earlier)
    ∙ ap (λ (n : Numbers). let now : Stepped = stepped (replayed (replayed s earlier) later) e in next_numbers n now.ops)
    (numbers_behind s first later earlier)

-- what answers add to an earlier history
pub history_behind : (earlier : List Entry) (events : List Event) (answers : List Reply)
    → history_of earlier events answers ≡ history_of [] events answers ++ earlier
history_behind earlier [] answers = refl
history_behind earlier (event ∷ events) [] = refl
history_behind earlier (event ∷ events) (Ok t ∷ answers) =
    let e : Entry = entry_of event t in
    history_behind (e ∷ earlier) events answers
    ∙ sym (ap (λ (h : List Entry). h ++ earlier) (history_behind (e ∷ []) events answers)
    ∙ append_assoc (history_of [] events answers) (e ∷ []) earlier)
history_behind earlier (event ∷ events) (Err e ∷ answers) = history_behind earlier events answers

history_parts : (earlier : List Entry) (events more : List Event) (answers replies : List Reply) → length answers ≡ length events
    → history_of earlier (events ++ more) (answers ++ replies) ≡ history_of (history_of earlier events answers) more replies
history_parts earlier [] more [] replies same = refl
history_parts earlier [] more (a ∷ answers) replies same = absurd (omega arith)
history_parts earlier (e ∷ events) more [] replies same = absurd (omega arith)
history_parts earlier (e ∷ events) more (Ok t ∷ answers) replies same =
    history_parts (entry_of e t ∷ earlier) events more answers replies (omega arith)
history_parts earlier (e ∷ events) more (Err x ∷ answers) replies same = history_parts earlier events more answers replies (omega arith)

-- the history of two runs that follow one another
pub history_of_both : (events more : List Event) (answers replies : List Reply) → length answers ≡ length events
    → history_of [] (events ++ more) (answers ++ replies) ≡ history_of [] more replies ++ history_of [] events answers
history_of_both events more answers replies same =
    history_parts [] events more answers replies same ∙ history_behind (history_of [] events answers) more replies

-- ---- answers behind one another

pub transcript_parts : {D : Type 0} (first : LiveState D) (earlier : List Entry) (events more : List Event) (answers replies : List Reply)
    → IsTranscript first earlier events answers → IsTranscript first (history_of earlier events answers) more replies
    → IsTranscript first earlier (events ++ more) (answers ++ replies)
transcript_parts first earlier [] more [] replies p q = q
transcript_parts first earlier [] more (a ∷ answers) replies p q = elim p [ ]
transcript_parts first earlier (e ∷ events) more [] replies p q = elim p [ ]
transcript_parts first earlier (e ∷ events) more (Ok t ∷ answers) replies p q =
    (p.0, transcript_parts first (entry_of e t ∷ earlier) events more answers replies p.1 q)
transcript_parts first earlier (e ∷ events) more (Err x ∷ answers) replies p q =
    transcript_parts first earlier events more answers replies p q

-- a stage that has come to a state and numbers by a history
module _ {D : Type 0} (first begun : LiveState D) (whole : List Entry) (at : begun.state ≡ replayed first.state whole)
    (counted : begun.numbers ≡ numbers_after first.state first.numbers whole) where
  pub state_at : (earlier : List Entry) → replayed begun.state earlier ≡ replayed first.state (earlier ++ whole)
  state_at earlier = ap (λ (s : State). replayed s earlier) at ∙ sym (replayed_behind first.state earlier whole)

  pub numbers_at : (earlier : List Entry)
      → numbers_after begun.state begun.numbers earlier ≡ numbers_after first.state first.numbers (earlier ++ whole)
  numbers_at earlier =
      ap (λ (s : State). numbers_after s begun.numbers earlier) at
      ∙ ap (λ (n : Numbers). numbers_after (replayed first.state whole) n earlier) counted
      ∙ sym (numbers_behind first.state first.numbers earlier whole)

  step_at : (earlier : List Entry) (e : Entry) (t : Answer) → IsStepOf begun earlier (stepped (replayed begun.state earlier) e) t
      → IsStepOf first (earlier ++ whole) (stepped (replayed first.state (earlier ++ whole)) e) t
  step_at earlier e t is =
      let same : stepped (replayed begun.state earlier) e ≡ stepped (replayed first.state (earlier ++ whole)) e =
      ap (λ (s : State). stepped s e) (state_at earlier) in
      record {
        outputs = is.outputs ∙ ap (λ (st : Stepped). st.outputs) same;
        closes = is.closes ∙ ap (λ (st : Stepped). st.closes) same;
        ended = is.ended ∙ ap (λ (st : Stepped). st.ended) same;
        refused_at = is.refused_at ∙ ap (λ (st : Stepped). st.refused_at) same;
        numbered = subst (λ (n : Numbers). let st : Stepped = stepped (replayed first.state (earlier ++ whole)) e in IsNumbered n st.ops t)
            (numbers_at earlier)
            (subst (λ (st : Stepped). IsNumbered (numbers_after begun.state begun.numbers earlier) st.ops t) same is.numbered);
      }

  pub transcript_at : (earlier : List Entry) (events : List Event) (answers : List Reply) → IsTranscript begun earlier events answers
      → IsTranscript first (earlier ++ whole) events answers
  transcript_at earlier [] [] told = tt
  transcript_at earlier [] (a ∷ answers) told = elim told [ ]
  transcript_at earlier (event ∷ events) [] told = elim told [ ]
  transcript_at earlier (event ∷ events) (Ok t ∷ answers) told =
      (step_at earlier (entry_of event t) t told.0, transcript_at (entry_of event t ∷ earlier) events answers told.1)
  transcript_at earlier (event ∷ events) (Err e ∷ answers) told = transcript_at earlier events answers told

  bear_at : (earlier : List Entry) (turns : List Answer) → BearTheirStates begun.state earlier turns
      → BearTheirStates first.state (earlier ++ whole) turns
  bear_at earlier [] told = tt
  bear_at earlier (t ∷ turns) told = (told.0 ∙ state_at earlier, bear_at (entry_of t.asked t ∷ earlier) turns told.1)

-- ---- groups behind one another

abbrev pub oks : List Answer → List Reply
oks turns = map Ok turns

asked_parts : (turns more : List Answer) → asked_by (turns ++ more) ≡ asked_by turns ++ asked_by more
asked_parts [] more = refl
asked_parts (t ∷ turns) more = ap (λ (l : List Event). t.asked ∷ l) (asked_parts turns more)

oks_parts : (turns more : List Answer) → oks (turns ++ more) ≡ oks turns ++ oks more
oks_parts [] more = refl
oks_parts (t ∷ turns) more = ap (λ (l : List Reply). Ok t ∷ l) (oks_parts turns more)

pub as_many : (turns : List Answer) → length (oks turns) ≡ length (asked_by turns)
as_many [] = refl
as_many (t ∷ turns) = (let more = as_many turns in omega (arith, more))

-- what holds of the events and answers of both holds of those of all
of_all : (P : List Event → List Reply → Type 0) (turns more : List Answer)
    → P (asked_by turns ++ asked_by more) (oks turns ++ oks more) → P (asked_by (turns ++ more)) (oks (turns ++ more))
of_all P turns more p =
    subst (λ (l : List Event). P l (oks (turns ++ more))) (sym (asked_parts turns more))
    (subst (λ (l : List Reply). P (asked_by turns ++ asked_by more) l) (sym (oks_parts turns more)) p)

bear_parts : (s : State) (earlier : List Entry) (turns more : List Answer) → BearTheirStates s earlier turns
    → BearTheirStates s (history_of earlier (asked_by turns) (oks turns)) more → BearTheirStates s earlier (turns ++ more)
bear_parts s earlier [] more p q = q
bear_parts s earlier (t ∷ turns) more p q = (p.0, bear_parts s (entry_of t.asked t ∷ earlier) turns more p.1 q)

pub one_history : {D : Type 0} (old new : LiveState D) (turns : List Answer) → IsGroup old turns new → IsOneHistory old turns new
one_history old new turns is = record { transcript = is.transcript; before = is.before; state = is.state; event = is.event; numbers = is.numbers }

pub next_history : {D : Type 0} (old between begun new : LiveState D) (turns more : List Answer) → IsOneHistory old turns between
    → begun.state ≡ between.state → begun.numbers ≡ between.numbers → IsGroup begun more new → IsOneHistory old (turns ++ more) new
next_history old between begun new turns more was same_state same_numbers is =
    let whole : List Entry = history_in turns in
    let at : begun.state ≡ replayed old.state whole = same_state ∙ was.state in
    let counted : begun.numbers ≡ numbers_after old.state old.numbers whole = same_numbers ∙ was.numbers in
    let both : history_in (turns ++ more) ≡ history_in more ++ whole =
    of_all (λ es rs. history_of [] es rs ≡ history_in more ++ whole) turns more
    (history_of_both (asked_by turns) (asked_by more) (oks turns) (oks more) (as_many turns)) in
    let before = was.event in
    let now = is.event in
    record {
      transcript = of_all (λ es rs. IsTranscript old [] es rs) turns more
          (transcript_parts old [] (asked_by turns) (asked_by more) (oks turns) (oks more) was.transcript
          (transcript_at old begun whole at counted [] (asked_by more) (oks more) is.transcript));
      before = bear_parts old.state [] turns more was.before (bear_at old begun whole at counted [] more is.before);
      state = is.state ∙ state_at old begun whole at counted (history_in more) ∙ sym (ap (replayed old.state) both);
      event = omega (arith, before, now, ap (λ (n : Numbers). n.event) same_numbers, length-append turns more);
      numbers = is.numbers ∙ numbers_at old begun whole at counted (history_in more)
          ∙ sym (ap (numbers_after old.state old.numbers) both);
    }

-- none is left to be put behind the others
pub oks_end : (now all : List Reply) (left : List Answer) → length left ≡ 0 → now ++ oks left ≡ all → now ≡ all
oks_end now all [] none is = sym (append-nil now) ∙ is
oks_end now all (t ∷ left) none is = absurd (omega (arith, none))
