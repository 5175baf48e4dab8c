-- What the player's steps say of the saved half: a new random order is another one, the entry that leaves stands in the queue, and
-- `single` and `consume` turn off from oneshot alone.
use Rattle.std.proofs.Common.{◌≡◌, ℕ, ◌+◌, ◌<◌, ◌==◌, Bool, true, false, List, [], length, refl, ap, ◌∙◌, arith}
use Rattle.std.proofs.Common.{Option, Some, None, Result, Ok, Err}
use Rattle.std.specs.Prelude.{filter, if◌then◌else◌, cond, ltb, option_map, not, ◌&&◌}
use Rattle.std.specs.List.{position_or_len}
use Rattle.std.proofs.lemmas.Bool.{ltb-true, false≢true}
use Rattle.play_queue.specs.declared.entry.Entry.{Entry}
use Rattle.player_core.specs.Staying.{all_staying, staying_behind, first_id}
use Rattle.player_core.specs.Choice.{chosen, is_left, nothing, this_round, new_round, or_else, round_again, placed, least}
use Rattle.player_core.specs.Commands.{named, begun, to_resume, resumed, stepped_if_any, unless_stopped}
use Rattle.player_core.specs.Ending.{consumed, after_single, single_by, followed_by, order_of, is_on, is_oneshot, over_at, over, ended_in}
use Rattle.player_core.specs.Ending.{turns_off}
use Rattle.player_core.specs.Order.{current_entry}
use Rattle.player_core.specs.Reports.{broken, failed_of, passed, passes}
use Rattle.player_core.specs.declared.failure.BrokenCause.{BrokenCause}
use Rattle.player_core.specs.declared.manners.Manners.{Manners}
use Rattle.player_core.specs.declared.manners.Manners.TheVariants as manners
use Rattle.player_core.specs.Player.{PlayerState, Step, unchanged}
use Rattle.player_core.specs.Words.{next_order}
use Rattle.player_core.specs.declared.block.Block.{Block}
use Rattle.player_core.specs.declared.choice.Choice.{Choice}
use Rattle.player_core.specs.declared.options.Single.{Single}
use Rattle.player_core.specs.declared.options.Single.TheVariants as singles
use Rattle.player_core.specs.declared.playing.PlayState.{PlayState}
use Rattle.player_core.specs.declared.playing.PlayState.TheVariants as state
use Rattle.player_core.specs.declared.refusal.PlayerError.{PlayerError}
use Rattle.player_core.specs.declared.settings.PlaySettings.{PlaySettings}
use Rattle.play_queue.specs.Entries.{Uris}
use Rattle.machine_core.specs.Steps.{from_named, step_of}
use Rattle.machine_core.specs.declared.steps.PlayerStep.{PlayerStep}
use Rattle.machine_core.specs.declared.steps.PlayerStep.TheVariants.{Resume, Play, Seek, Next, Ended, Failed}

-- what a step says of the saved half
pub record IsFair (made : Step) (entries : List Entry) (settings : PlaySettings) : Type 0 where
  pub order : (g : ℕ) → made.changes.order ≡ Some g → g ≡ next_order settings.order
  pub removed : (at : ℕ) → made.changes.removed ≡ Some at → at < length entries
  pub single : made.changes.single_off ≡ true → settings.options.single ≡ singles.Oneshot
  pub consume : made.changes.consume_off ≡ true → settings.options.consume ≡ singles.Oneshot

abbrev pub FairIfMade : Result Step PlayerError → List Entry → PlaySettings → Type 0
FairIfMade (Ok made) entries settings = IsFair made entries settings
FairIfMade (Err refusal) entries settings = Unit {0}

-- the order number after one is another one
pub next_is_other : (g : ℕ) → next_order g ≡ g → ⊥
next_is_other g same = of (g == 18446744073709551615) refl same where
  of : (b : Bool) → (g == 18446744073709551615) ≡ b → (if b then 0 else g + 1) ≡ g → ⊥
  of true is zero = false≢true (ap (λ (n : ℕ). n == 18446744073709551615) zero ∙ is)
  of false is more = absurd (omega arith)

-- a random order that begins is the next one
abbrev Grows : ℕ → Option ℕ → Type 0
Grows order begins = (g : ℕ) → begins ≡ Some g → g ≡ next_order order

none_grows : (order : ℕ) → Grows order None
none_grows order g begins = absurd (cc)

next_grows : (order : ℕ) (b : Bool) → Grows order (if b then Some (next_order order) else None)
next_grows order true g begins = cc
next_grows order false g begins = absurd (cc)

round_grows : (order : ℕ) (found : Option ℕ) → Grows order (new_round (next_order order) found).order
round_grows order None g begins = absurd (cc)
round_grows order (Some id) g begins = cc

else_grows : (order : ℕ) (found : Option ℕ) (other : Choice) → Grows order other.order → Grows order (or_else found other).order
else_grows order None other h = h
else_grows order (Some id) other h = none_grows order

if_grows : (order : ℕ) (b : Bool) (one other : Choice) → Grows order one.order → Grows order other.order →
    Grows order (if b then one else other).order
if_grows order true one other h k = h
if_grows order false one other h k = k

again_grows : (settings : PlaySettings) (all : List Entry) → Grows settings.order (round_again settings all).order
again_grows settings all = round_grows settings.order (least settings.key (next_order settings.order) all)

chosen_grows : (settings : PlaySettings) (entries : List Entry) (block : Block) (dropped : Uris) (played : List ℕ) (at current : ℕ) →
    Grows settings.order (chosen settings entries block dropped played at current).order
chosen_grows settings entries block dropped played at current =
    let order : ℕ = settings.order in
    let all : List Entry = all_staying block dropped entries in
    let again : Choice = if settings.options.repeat then round_again settings all else nothing in
    let front : Choice = if settings.options.repeat then this_round (first_id all) else nothing in
    let left : Option ℕ = least settings.key order (filter (is_left current played) all) in
    let behind : Option ℕ = first_id (staying_behind block dropped at entries) in
    if_grows order settings.options.random (or_else left again) (or_else behind front)
    (else_grows order left again (if_grows order settings.options.repeat (round_again settings all) nothing (again_grows settings all)
    (none_grows order)))
    (else_grows order behind front (if_grows order settings.options.repeat (this_round (first_id all)) nothing (none_grows order)
    (none_grows order)))

resume_grows : (settings : PlaySettings) (entries : List Entry) (current : Option ℕ) →
    Grows settings.order (to_resume settings entries current).order
resume_grows settings entries None =
    if_grows settings.order settings.options.random _ _ (again_grows settings entries) (none_grows settings.order)
resume_grows settings entries (Some current) = none_grows settings.order

begun_grows : (settings : PlaySettings) (current : Option ℕ) (id : ℕ) → Grows settings.order (begun settings current id).order
begun_grows settings None id = next_grows settings.order settings.options.random
begun_grows settings (Some current) id = none_grows settings.order

single_grows : (order current : ℕ) (consume repeat : Bool) → Grows order (order_of (after_single consume repeat current))
single_grows order current true repeat = none_grows order
single_grows order current false true = none_grows order
single_grows order current false false = none_grows order

by_grows : (order current : ℕ) (by : Manners) (consume repeat : Bool) (next : Choice) → Grows order next.order →
    Grows order (order_of (single_by by consume repeat current next))
by_grows order current manners.Named consume repeat next h = single_grows order current consume repeat
by_grows order current manners.Mpd consume repeat next h =
    if_grows order (not consume && repeat) (this_round (Some current)) next (none_grows order) h

followed_grows : (settings : PlaySettings) (mode : Single) (entries : List Entry) (played : List ℕ) (at current : ℕ) →
    Grows settings.order (order_of (followed_by settings mode entries played at current))
followed_grows settings singles.Off entries played at current =
    chosen_grows settings entries (consumed (is_on settings.options.consume) at) [] played at current
followed_grows settings singles.On entries played at current =
    by_grows settings.order current settings.manners (is_on settings.options.consume) settings.options.repeat _
    (chosen_grows settings entries (consumed (is_on settings.options.consume) at) [] played at current)
followed_grows settings singles.Oneshot entries played at current =
    by_grows settings.order current settings.manners (is_on settings.options.consume) settings.options.repeat _
    (chosen_grows settings entries (consumed (is_on settings.options.consume) at) [] played at current)

-- a step that changes the order alone, or nothing
order_fair : (made : Step) (entries : List Entry) (settings : PlaySettings) → made.changes.removed ≡ None →
    made.changes.single_off ≡ false → made.changes.consume_off ≡ false → Grows settings.order made.changes.order →
    IsFair made entries settings
order_fair made entries settings none single_stays consume_stays grows = record {
  order = grows;
  removed = λ at is. absurd (cc);
  single = λ is. absurd (cc);
  consume = λ is. absurd (cc);
}

unchanged_fair : (player : PlayerState) (entries : List Entry) (settings : PlaySettings) → IsFair (unchanged player) entries settings
unchanged_fair player entries settings = order_fair (unchanged player) entries settings refl refl refl (none_grows settings.order)

-- the current entry's position
found_within : (entries : List Entry) (found : ℕ) (id : ℕ) (place : ℕ × ℕ) (b : Bool) → ltb found (length entries) ≡ b →
    option_map (λ (at : ℕ). (at, id)) (cond b (Some found) None) ≡ Some place → place.0 < length entries
found_within entries found id place true is e =
    let same : (found, id) ≡ place = cc in
    let below : found < length entries = ltb-true found (length entries) is in
    let first : found ≡ place.0 = ap (λ (p : ℕ × ℕ). p.0) same in
    omega (arith, below, first)
found_within entries found id place false is e = absurd (cc)

placed_within : (entries : List Entry) (current : Option ℕ) (place : ℕ × ℕ) → placed entries current ≡ Some place → place.0 < length entries
placed_within entries None place e = absurd (cc)
placed_within entries (Some id) place e =
    found_within entries (position_or_len (λ entry. entry.id == id) entries) id place _ refl e

consumed_within : (entries : List Entry) (consume : Bool) (place at : ℕ) → place < length entries →
    (if consume then Some place else None) ≡ Some at → at < length entries
consumed_within entries true place at within is = let same : place ≡ at = cc in omega (arith, same, within)
consumed_within entries false place at within is = absurd (cc)

oneshot_is : (mode : Single) → is_oneshot mode ≡ true → mode ≡ singles.Oneshot
oneshot_is singles.Off is = absurd (cc)
oneshot_is singles.On is = absurd (cc)
oneshot_is singles.Oneshot is = refl

turned_oneshot : (mode : Single) (by : Manners) (after : PlayState) → turns_off mode by after ≡ true → is_oneshot mode ≡ true
turned_oneshot singles.Off by after is = is
turned_oneshot singles.On by after is = is
turned_oneshot singles.Oneshot by after is = refl

over_fair : (entries : List Entry) (settings : PlaySettings) (mode : Single) (player : PlayerState) →
    (is_oneshot mode ≡ true → settings.options.single ≡ singles.Oneshot) → IsFair (over entries settings mode player) entries settings
over_fair entries settings mode player once = of (placed entries player.current) refl where
  of : (place : Option (ℕ × ℕ)) → placed entries player.current ≡ place →
      IsFair (over_at entries settings mode player place) entries settings
  of None is = unchanged_fair player entries settings
  of (Some place) is = record {
    order = followed_grows settings mode entries player.played place.0 place.1;
    removed = λ at removed.
        consumed_within entries (is_on settings.options.consume) place.0 at (placed_within entries player.current place is) removed;
    single = λ is. once (turned_oneshot mode settings.manners _ is);
    consume = oneshot_is settings.options.consume;
  }

named_fair : (found : Result ℕ PlayerError) (step : ℕ → Step) (entries : List Entry) (settings : PlaySettings) →
    ((id : ℕ) → IsFair (step id) entries settings) → FairIfMade (from_named found step) entries settings
named_fair (Ok id) step entries settings fair = fair id
named_fair (Err refusal) step entries settings fair = tt

any_fair : (random : Bool) (player : PlayerState) (choice : Choice) (id : Option ℕ) (entries : List Entry) (settings : PlaySettings) →
    Grows settings.order choice.order → IsFair (stepped_if_any random player choice id) entries settings
any_fair random player choice None entries settings grows = unchanged_fair player entries settings
any_fair random player choice (Some id) entries settings grows = order_fair _ entries settings refl refl refl grows

resumed_fair : (is : PlayState) (entries : List Entry) (settings : PlaySettings) (player : PlayerState) →
    IsFair (resumed is entries settings player) entries settings
resumed_fair state.Play entries settings player = unchanged_fair player entries settings
resumed_fair state.Pause entries settings player = unchanged_fair (record player { state = state.Play }) entries settings
resumed_fair state.Stop entries settings player =
    any_fair settings.options.random player (to_resume settings entries player.current) _ entries settings
    (resume_grows settings entries player.current)

next_fair : (is : PlayState) (made : Step) (entries : List Entry) (settings : PlaySettings) → IsFair made entries settings →
    FairIfMade (unless_stopped is made) entries settings
next_fair state.Stop made entries settings fair = tt
next_fair state.Play made entries settings fair = fair
next_fair state.Pause made entries settings fair = fair

ticket_fair : (b : Bool) (one other : Step) (entries : List Entry) (settings : PlaySettings) → IsFair one entries settings →
    IsFair other entries settings → IsFair (if b then one else other) entries settings
ticket_fair true one other entries settings h k = h
ticket_fair false one other entries settings h k = k

ended_fair : (is : PlayState) (entries : List Entry) (settings : PlaySettings) (player : PlayerState) (ticket : ℕ) →
    IsFair (ended_in is entries settings player ticket) entries settings
ended_fair state.Stop entries settings player ticket = unchanged_fair player entries settings
ended_fair state.Pause entries settings player ticket = unchanged_fair player entries settings
ended_fair state.Play entries settings player ticket =
    ticket_fair (player.ticket == ticket) _ _ entries settings
    (over_fair entries settings settings.options.single player (oneshot_is settings.options.single))
    (unchanged_fair player entries settings)

passed_fair : (entries : List Entry) (settings : PlaySettings) (player : PlayerState) (uri : List ℕ) →
    IsFair (passed entries settings player uri) entries settings
passed_fair entries settings player uri =
    let fair = over_fair entries settings singles.Off player (λ is. absurd (cc)) in
    record { order = fair.order; removed = fair.removed; single = fair.single; consume = fair.consume }

failed_fair : (entries : List Entry) (settings : PlaySettings) (player : PlayerState) (ticket : ℕ) (cause : BrokenCause)
    (entry : Option Entry) → IsFair (failed_of entries settings player ticket cause entry) entries settings
failed_fair entries settings player ticket cause None = unchanged_fair player entries settings
failed_fair entries settings player ticket cause (Some entry) =
    ticket_fair (passes entries settings player ticket cause) _ _ entries settings (passed_fair entries settings player entry.uri)
    (unchanged_fair (broken player ticket cause entry.uri) entries settings)

pub step_fair : (step : PlayerStep) (entries : List Entry) (settings : PlaySettings) (player : PlayerState) →
    FairIfMade (step_of step entries settings player) entries settings
step_fair Resume entries settings player = resumed_fair player.state entries settings player
step_fair (Play selector) entries settings player =
    named_fair (named selector entries) _ entries settings
    (λ id. order_fair _ entries settings refl refl refl (begun_grows settings player.current id))
step_fair (Seek selector song milliseconds) entries settings player =
    named_fair (named selector entries) _ entries settings
    (λ id. order_fair _ entries settings refl refl refl (begun_grows settings player.current id))
step_fair Next entries settings player =
    next_fair player.state _ entries settings (over_fair entries settings singles.Off player (λ is. absurd (cc)))
step_fair (Ended ticket) entries settings player = ended_fair player.state entries settings player ticket
step_fair (Failed ticket cause) entries settings player =
    failed_fair entries settings player ticket cause (current_entry entries player.current)
