-- What was read of a picture for a client is told by its next request, or by none.
use Rattle.std.proofs.Common.{◌≡◌, ℕ, Bool, true, false, not, ◌==◌, List, [], ◌∷◌, ◌++◌, find, Option, Some, None, cond}
use Rattle.std.proofs.Common.{option_map, refl, sym, ◌∙◌, ap, eqb-true, eq-eqb, ne_eqb, IsSome}
use Rattle.std.proofs.lemmas.Bool.{false≢true}
use Rattle.command_text.specs.declared.request.Request.{Request}
use Rattle.command_text.specs.declared.request.Request.TheVariants.{Single, List as CommandList, OkList, Noidle}
use Rattle.command_text.specs.declared.place.Place.TheVariants.{Alone, InList}
use Rattle.command_text.specs.Answer.{list_ok}
use Rattle.idle_masks.specs.Watched.{watched}
use Rattle.idle_masks.specs.declared.subsystem.Subsystems.{Subsystems}
use Rattle.idle_masks.specs.declared.watch.Watched.{Watched}
use Rattle.state_codec.specs.SavedState.{SavedState}
use Rattle.daemon_core.specs.Pictures.{pictured, pictured_where, pictures_without, told_for, unpictured}
use Rattle.daemon_core.specs.Replay.{Entry, replay}
use Rattle.daemon_core.specs.Run.{Ran, ran}
use Rattle.daemon_core.specs.Session.{of_ran}
use Rattle.daemon_core.specs.State.{State}
use Rattle.daemon_core.specs.Step.{asked, asking, begun, is_noidle, reads_picture, requested_by, step, waiting_of, waits_no_more}
use Rattle.daemon_core.specs.Stray.{stays}
use Rattle.daemon_core.specs.declared.event.Event.TheVariants as events
use Rattle.daemon_core.specs.declared.outcome.Ending.{Ending}
use Rattle.daemon_core.specs.declared.outcome.Ending.TheVariants.{Answered, Closed, Killed, Waits}
use Rattle.daemon_core.specs.declared.picture.ClientPicture.{ClientPicture}
use Rattle.daemon_core.specs.declared.picture.PictureTold.{PictureTold}
use Rattle.daemon_core.proofs.QuietLaws.{quiet}
use Rattle.daemon_core.proofs.StrayLaws.{nothing_told}

abbrev of_client : ℕ → ClientPicture → Bool
of_client c = λ p. p.client == c

-- a client of which nothing is kept
forgotten_one : (p : ClientPicture) (ps : List ClientPicture) (c : ℕ) (same : Bool) → (p.client == c) ≡ same →
    find (of_client c) (unpictured ps c) ≡ None → find (of_client c) (cond (not same) (p ∷ unpictured ps c) (unpictured ps c)) ≡ None
forgotten_one p ps c true is h = h
forgotten_one p ps c false is h = ap (λ b. cond b (Some p) (find (of_client c) (unpictured ps c))) is ∙ h

forgotten : (ps : List ClientPicture) (c : ℕ) → find (of_client c) (unpictured ps c) ≡ None
forgotten [] c = refl
forgotten (p ∷ ps) c = forgotten_one p ps c (p.client == c) refl (forgotten ps c)

pub none_told : (ps : List ClientPicture) (c : ℕ) → told_for (unpictured ps c) c ≡ None
none_told ps c = ap (option_map (λ p. p.told)) (forgotten ps c)

-- another one
other_one : (p : ClientPicture) (ps : List ClientPicture) (c d : ℕ) (same : Bool) → (c ≡ d → ⊥) → (p.client == c) ≡ same →
    find (of_client d) (unpictured ps c) ≡ find (of_client d) ps →
    find (of_client d) (cond (not same) (p ∷ unpictured ps c) (unpictured ps c)) ≡ cond (p.client == d) (Some p) (find (of_client d) ps)
other_one p ps c d true other is h =
    h ∙ sym (ap (λ b. cond b (Some p) (find (of_client d) ps)) (ne_eqb p.client d (λ e. other (sym (eqb-true p.client c is) ∙ e))))
other_one p ps c d false other is h = ap (λ o. cond (p.client == d) (Some p) o) h

other_stays : (ps : List ClientPicture) (c d : ℕ) → (c ≡ d → ⊥) → find (of_client d) (unpictured ps c) ≡ find (of_client d) ps
other_stays [] c d other = refl
other_stays (p ∷ ps) c d other = other_one p ps c d (p.client == c) other refl (other_stays ps c d other)

-- what stands at the end
behind_one : (p last : ClientPicture) (ps : List ClientPicture) (c : ℕ) (same : Bool) → (p.client == c) ≡ same →
    cond same (Some p) (find (of_client c) ps) ≡ None → (find (of_client c) ps ≡ None → find (of_client c) (ps ++ last ∷ []) ≡ find (of_client c) (last ∷ []))
    → cond same (Some p) (find (of_client c) (ps ++ last ∷ [])) ≡ find (of_client c) (last ∷ [])
behind_one p last ps c true is none rest = cc
behind_one p last ps c false is none rest = rest none

behind : (ps : List ClientPicture) (last : ClientPicture) (c : ℕ) → find (of_client c) ps ≡ None →
    find (of_client c) (ps ++ last ∷ []) ≡ find (of_client c) (last ∷ [])
behind [] last c none = refl
behind (p ∷ ps) last c none = behind_one p last ps c (p.client == c) refl none (behind ps last c)

not_last : (ps : List ClientPicture) (last : ClientPicture) (d : ℕ) → (last.client == d) ≡ false →
    find (of_client d) (ps ++ last ∷ []) ≡ find (of_client d) ps
not_last [] last d is = ap (λ b. cond b (Some last) None) is
not_last (p ∷ ps) last d is = ap (λ o. cond (p.client == d) (Some p) o) (not_last ps last d is)

abbrev picture_of : ℕ → PictureTold → ClientPicture
picture_of c told = record { client = c; told = told }

own_told : (ps : List ClientPicture) (c : ℕ) (told : PictureTold) → told_for (pictured ps c told) c ≡ Some told
own_told ps c told = ap (option_map (λ p. p.told))
    (behind (unpictured ps c) (picture_of c told) c (forgotten ps c)
    ∙ ap (λ b. cond b (Some (picture_of c told)) None) (eq-eqb c c refl))

others_told : (ps : List ClientPicture) (c d : ℕ) (told : PictureTold) → (c ≡ d → ⊥) → told_for (pictured ps c told) d ≡ told_for ps d
others_told ps c d told other = ap (option_map (λ p. p.told))
    (not_last (unpictured ps c) (picture_of c told) d (ne_eqb c d other) ∙ other_stays ps c d other)

-- where the client is connected
read_where : (found : Option Watched) (ps : List ClientPicture) (c : ℕ) (told : PictureTold) → IsSome found →
    told_for (pictured_where found ps c told) c ≡ Some told
read_where None ps c told some = absurd (false≢true some)
read_where (Some w) ps c told some = own_told ps c told

other_where : (found : Option Watched) (ps : List ClientPicture) (c d : ℕ) (told : PictureTold) → (c ≡ d → ⊥) →
    told_for (pictured_where found ps c told) d ≡ told_for ps d
other_where None ps c d told other = refl
other_where (Some w) ps c d told other = others_told ps c d told other

pub read_last : (s : State) (c : ℕ) (told : PictureTold) → IsSome (watched s.clients c) →
    told_for (reads_picture c told s).pictures c ≡ Some told
read_last s c told some = read_where (watched s.clients c) s.pictures c told some

pub others_stay : (s : State) (c d : ℕ) (told : PictureTold) → (c ≡ d → ⊥) →
    told_for (reads_picture c told s).pictures d ≡ told_for s.pictures d
others_stay s c d told other = other_where (watched s.clients c) s.pictures c d told other

-- nothing else comes of it
pub read_alone : (kept : SavedState) (history : List Entry) (c : ℕ) (told : PictureTold) (refused : Option ℕ) →
    step (replay kept history) (events.Picture c told) refused ≡ stays (reads_picture c told (replay kept history))
unfolding step
read_alone kept history c told refused = nothing_told (reads_picture c told (replay kept history)) (quiet kept history)

-- behind a request nothing is left to tell
left_none : (found : Option Watched) (ps : List ClientPicture) (c : ℕ) → IsSome found → told_for (pictures_without found ps c) c ≡ None
left_none None ps c some = absurd (false≢true some)
left_none (Some w) ps c some = none_told ps c

abbrev Used : ℕ → State → Type 0
Used c s = told_for s.pictures c ≡ None

of_ran_uses : (c : ℕ) (s : State) (r : Ran) (ending : Ending) → IsSome (watched s.clients c) → let a = of_ran c s r ending in Used c a.after
of_ran_uses c s r Answered some = none_told s.pictures c
of_ran_uses c s r Closed some = left_none (watched s.clients c) s.pictures c some
of_ran_uses c s r Killed some = refl
of_ran_uses c s r (Waits mask) some = none_told s.pictures c

asked_uses : (c : ℕ) (refused : Option ℕ) (s : State) (request : Request) → IsSome (watched s.clients c) → is_noidle request ≡ false →
    let a = asked c refused s request in Used c a.after
asked_uses c refused s (Single line) some lines =
    let r : Ran = ran (asking c s) Alone [] refused 0 (begun c s) (line ∷ []) s.machine in of_ran_uses c s r r.ending some
asked_uses c refused s (CommandList lines) some is =
    let r : Ran = ran (asking c s) InList [] refused 0 (begun c s) lines s.machine in of_ran_uses c s r r.ending some
asked_uses c refused s (OkList lines) some is =
    let r : Ran = ran (asking c s) InList list_ok refused 0 (begun c s) lines s.machine in of_ran_uses c s r r.ending some
asked_uses c refused s Noidle some lines = absurd (false≢true (sym lines))

closed_uses : (noidle : Bool) (c : ℕ) (s : State) → IsSome (watched s.clients c) → noidle ≡ false →
    let a = waits_no_more noidle c s in Used c a.after
closed_uses true c s some is = absurd (false≢true (sym is))
closed_uses false c s some is = left_none (watched s.clients c) s.pictures c some

known_uses : (c : ℕ) (refused : Option ℕ) (s : State) (request : Request) (waiting : Option Subsystems) → IsSome (watched s.clients c) →
    is_noidle request ≡ false → let a = requested_by c refused s request (Some waiting) in Used c a.after
known_uses c refused s request None some lines = asked_uses c refused s request some lines
known_uses c refused s request (Some mask) some lines = closed_uses (is_noidle request) c s some lines

found_uses : (c : ℕ) (refused : Option ℕ) (s : State) (request : Request) (found : Option Watched) → IsSome (watched s.clients c) →
    IsSome found → is_noidle request ≡ false → let a = requested_by c refused s request (waiting_of found) in Used c a.after
found_uses c refused s request None some there lines = absurd (false≢true there)
found_uses c refused s request (Some w) some there lines = known_uses c refused s request w.waiting some lines

pub used : (s : State) (c : ℕ) (request : Request) (refused : Option ℕ) → IsSome (watched s.clients c) → is_noidle request ≡ false →
    told_for (step s (events.Request c request) refused).after.pictures c ≡ None
unfolding step
used s c request refused some lines = found_uses c refused s request (watched s.clients c) some some lines
