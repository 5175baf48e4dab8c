-- What the watch holds pending is what the history says.
use Rattle.std.proofs.Common.{◌≡◌, ℕ, ◌<◌, Bool, true, false, ◌||◌, ◌&&◌, not, ◌==◌, List, [], ◌∷◌, Some, None, cond, refl, sym, ◌∙◌, ap}
use Rattle.std.proofs.Common.{arith, eq-eqb}
use Rattle.std.specs.List.{list_any, AllByRecursion, cons_option}
use Rattle.std.proofs.lemmas.Bool.{ne_eqb}
use Rattle.std.proofs.Math.Bool.{or-false}
use Rattle.idle_masks.specs.declared.subsystem.Subsystem.{Subsystem}
use Rattle.idle_masks.specs.declared.subsystem.Subsystem.TheVariants.{Database, Update, StoredPlaylist, Playlist, Player, Mixer, Options}
use Rattle.idle_masks.specs.declared.subsystem.Subsystem.TheVariants.{Sticker, Subscription, Message}
use Rattle.idle_masks.specs.declared.subsystem.Subsystems.{Subsystems}
use Rattle.idle_masks.specs.declared.watch.Watched.{Watched}
use Rattle.idle_masks.specs.declared.ready.Report.{Report}
use Rattle.idle_masks.specs.Subsystems.{contains, set_of, none, only, union, difference, is_empty}
use Rattle.idle_masks.specs.Watched.{grown, marked, marked_some, nat_among, due, reported, reports_of, after_reports}
use Rattle.daemon_core.specs.Pending.{Moment, connects, reports_to, since, is_pending, news, pending_of, touches, with_news}
use Rattle.daemon_core.specs.Agreement.{Rises, Agree, AgreeBut}

-- a set made by a test has what passes it
pub contains-set_of : (f : Subsystem → Bool) (x : Subsystem) → contains (set_of f) x ≡ f x
contains-set_of f Database = refl
contains-set_of f Update = refl
contains-set_of f StoredPlaylist = refl
contains-set_of f Playlist = refl
contains-set_of f Player = refl
contains-set_of f Mixer = refl
contains-set_of f Options = refl
contains-set_of f Sticker = refl
contains-set_of f Subscription = refl
contains-set_of f Message = refl

-- sets that have the same subsystems are equal
pub set_ext : (s t : Subsystems) → ((x : Subsystem) → contains s x ≡ contains t x) → s ≡ t
set_ext s t same = λ i. record {
  database = same Database i;
  update = same Update i;
  stored_playlist = same StoredPlaylist i;
  playlist = same Playlist i;
  player = same Player i;
  mixer = same Mixer i;
  options = same Options i;
  sticker = same Sticker i;
  subscription = same Subscription i;
  message = same Message i;
}

-- nothing is in a set whose test is false
pub not_or_true : (a b : Bool) → not (a || b) ≡ true → (a ≡ false) × (not b ≡ true)
not_or_true true b h = absurd (Rattle.std.proofs.lemmas.Bool.false≢true h)
not_or_true false b h = (refl, h)

pub contains-empty : (s : Subsystems) (x : Subsystem) → is_empty s ≡ true → contains s x ≡ false
contains-empty s x h =
    let a = not_or_true _ _ h in
    let b = not_or_true _ _ a.1 in
    let c = not_or_true _ _ b.1 in
    let d = not_or_true _ _ c.1 in
    let e = not_or_true _ _ d.1 in
    let f = not_or_true _ _ e.1 in
    let g = not_or_true _ _ f.1 in
    let k = not_or_true _ _ g.1 in
    let l = not_or_true _ _ k.1 in
    let n = not_or_true _ _ l.1 in
    elim x as (λ v. contains s v ≡ false) [
      | Database ↦ a.0
      | Update ↦ b.0
      | StoredPlaylist ↦ c.0
      | Playlist ↦ d.0
      | Player ↦ e.0
      | Mixer ↦ f.0
      | Options ↦ g.0
      | Sticker ↦ k.0
      | Subscription ↦ l.0
      | Message ↦ n.0
    ]

-- the report to a client says what was due to it
and_false_or : (a b : Bool) → ((a && false) || b) ≡ b
and_false_or true b = refl
and_false_or false b = refl

eqb_same : (n : ℕ) → (n == n) ≡ true
eqb_same n = eq-eqb n n refl

one_report : (c : ℕ) (x : Subsystem) (w : Watched) (rest : List Report) (empty : Bool) → is_empty (due w) ≡ empty →
    list_any (λ r. (r.client == c) && contains r.changed x)
    (cons_option (cond empty None (Some (record { client = w.client; changed = due w }))) rest)
    ≡ (((w.client == c) && contains (due w) x) || list_any (λ r. (r.client == c) && contains r.changed x) rest)
one_report c x w rest true h = sym (ap (λ v. ((w.client == c) && v) || list_any (λ r. (r.client == c) && contains r.changed x) rest)
    (contains-empty (due w) x h) ∙ and_false_or (w.client == c) _)
one_report c x w rest false h = refl

-- no later client is this one
reports_none : (c : ℕ) (x : Subsystem) (ws : List Watched) → AllByRecursion (λ v. c < v.client) ws →
    list_any (λ r. (r.client == c) && contains r.changed x) (reports_of ws) ≡ false
reports_none c x [] h = refl
reports_none c x (v ∷ vs) h =
    one_report c x v (reports_of vs) (is_empty (due v)) refl
    ∙ ap (λ b. (b && contains (due v) x) || list_any (λ r. (r.client == c) && contains r.changed x) (reports_of vs))
    (ne_eqb v.client c (λ e. omega (arith, h.0, e)))
    ∙ reports_none c x vs h.1

-- where the numbers rise, what is reported to a client is what is due to it
pub reports_are_due : (x : Subsystem) (ws : List Watched) → Rises ws →
    AllByRecursion (λ w. list_any (λ r. (r.client == w.client) && contains r.changed x) (reports_of ws) ≡ contains (due w) x) ws
reports_are_due x [] h = tt
reports_are_due x (w ∷ ws) h = (
  one_report w.client x w (reports_of ws) (is_empty (due w)) refl
      ∙ ap (λ b. (b && contains (due w) x) || list_any (λ r. (r.client == w.client) && contains r.changed x) (reports_of ws))
      (eqb_same w.client)
      ∙ ap (λ b. contains (due w) x || b) (reports_none w.client x ws h.0) ∙ or-false (contains (due w) x),
  later ws h.0 (reports_are_due x ws h.1),
)
  where
    later : (vs : List Watched) → AllByRecursion (λ v. w.client < v.client) vs →
        AllByRecursion (λ v. list_any (λ r. (r.client == v.client) && contains r.changed x) (reports_of ws) ≡ contains (due v) x) vs →
        AllByRecursion (λ v. list_any (λ r. (r.client == v.client) && contains r.changed x) (reports_of (w ∷ ws)) ≡ contains (due v) x) vs
    later [] above same = tt
    later (v ∷ vs) above same = (
      one_report v.client x w (reports_of ws) (is_empty (due w)) refl
          ∙ ap (λ b. (b && contains (due w) x) || list_any (λ r. (r.client == v.client) && contains r.changed x) (reports_of ws))
          (ne_eqb w.client v.client (λ e. omega (arith, above.0, e)))
          ∙ same.0,
      later vs above.1 same.1,
    )

-- one moment more
pub pending_more : (m : Moment) (earlier : List Moment) (c : ℕ) (x : Subsystem) (fresh told : Bool) →
    connects c m ≡ fresh → reports_to c x m ≡ told →
    is_pending (m ∷ earlier) c x ≡ cond fresh false (cond told false (touches c x m || is_pending earlier c x))
pending_more m earlier c x true told f t =
    ap (λ b. list_any (touches c x) (since (reports_to c x) (cond b [] (m ∷ since (connects c) earlier)))) f
pending_more m earlier c x false true f t =
    ap (λ b. list_any (touches c x) (since (reports_to c x) (cond b [] (m ∷ since (connects c) earlier)))) f
    ∙ ap (λ b. list_any (touches c x) (cond b [] (m ∷ since (reports_to c x) (since (connects c) earlier)))) t
pending_more m earlier c x false false f t =
    ap (λ b. list_any (touches c x) (since (reports_to c x) (cond b [] (m ∷ since (connects c) earlier)))) f
    ∙ ap (λ b. list_any (touches c x) (cond b [] (m ∷ since (reports_to c x) (since (connects c) earlier)))) t

-- what stays pending after a report
and_not_false : (a b : Bool) → b ≡ false → a ≡ (a && not b)
and_not_false true b h = sym (ap not h)
and_not_false false b h = refl

contains-reported : (g : Watched) (x : Subsystem) (empty : Bool) → is_empty (due g) ≡ empty →
    let after : Watched = cond empty g (record g { pending = difference g.pending (due g); waiting = None }) in
    contains after.pending x ≡ (contains g.pending x && not (contains (due g) x))
contains-reported g x true h = and_not_false (contains g.pending x) (contains (due g) x) (contains-empty (due g) x h)
contains-reported g x false h = contains-set_of (λ y. contains g.pending y && not (contains (due g) y)) x

-- what a moment makes pending for a client
abbrev news_in : Moment → Watched → Subsystems
news_in m w = news m.changed m.notified w.client

-- the two ways to add a change and take off a report
grown_is_pending : (was changed told : Bool) → ((was || changed) && not told) ≡ cond told false (changed || was)
grown_is_pending true true true = refl
grown_is_pending true true false = refl
grown_is_pending true false true = refl
grown_is_pending true false false = refl
grown_is_pending false true true = refl
grown_is_pending false true false = refl
grown_is_pending false false true = refl
grown_is_pending false false false = refl

one_after : (m : Moment) (earlier : List Moment) (w : Watched) (x : Subsystem) (fresh : Bool) → connects w.client m ≡ fresh →
    w.pending ≡ cond fresh none (pending_of earlier w.client) →
    (fresh ≡ true → news_in m w ≡ none) →
    reports_to w.client x m ≡ contains (due (grown (news_in m w) w)) x →
    ((contains w.pending x || contains (news_in m w) x) && not (contains (due (grown (news_in m w) w)) x)) ≡ is_pending (m ∷ earlier) w.client x
one_after m earlier w x true f was quiet reports =
    ap (λ b. (b || contains (news_in m w) x) && not (contains (due (grown (news_in m w) w)) x))
    (ap (λ s. contains s x) was ∙ contains-set_of (λ _. false) x)
    ∙ ap (λ b. b && not (contains (due (grown (news_in m w) w)) x)) (ap (λ s. contains s x) (quiet refl) ∙ contains-set_of (λ _. false) x)
    ∙ sym (pending_more m earlier w.client x true _ f refl)
one_after m earlier w x false f was quiet reports =
    ap (λ b. (b || contains (news_in m w) x) && not (contains (due (grown (news_in m w) w)) x))
    (ap (λ s. contains s x) was ∙ contains-set_of (is_pending earlier w.client) x)
    ∙ grown_is_pending (is_pending earlier w.client x) (contains (news_in m w) x) (contains (due (grown (news_in m w) w)) x)
    ∙ sym (pending_more m earlier w.client x false _ f reports)

-- a client's set after the event's changes were marked and its reports were taken off
set_after : (m : Moment) (earlier : List Moment) (w : Watched) →
    w.pending ≡ cond (connects w.client m) none (pending_of earlier w.client) →
    (connects w.client m ≡ true → news_in m w ≡ none) →
    ((x : Subsystem) → reports_to w.client x m ≡ contains (due (grown (news_in m w) w)) x) →
    let after = reported (grown (news_in m w) w) in after.pending ≡ pending_of (m ∷ earlier) w.client
set_after m earlier w was quiet reports = set_ext _ _ (λ x.
    contains-reported (grown (news_in m w) w) x (is_empty (due (grown (news_in m w) w))) refl
    ∙ ap (λ b. b && not (contains (due (grown (news_in m w) w)) x)) (contains-set_of (λ y. contains w.pending y || contains (news_in m w) y) x)
    ∙ one_after m earlier w x (connects w.client m) refl was quiet (reports x)
    ∙ sym (contains-set_of (is_pending (m ∷ earlier) w.client) x))

-- a report keeps the number
pub client-reported : (g : Watched) (empty : Bool) →
    let after : Watched = cond empty g (record g { pending = difference g.pending (due g); waiting = None }) in after.client ≡ g.client
client-reported g true = refl
client-reported g false = refl

-- what becomes pending keeps the numbers
rises-news : (ws : List Watched) (changed : Subsystems) (notified : List ℕ) → Rises ws → Rises (with_news changed notified ws)
rises-news [] changed notified h = tt
rises-news (w ∷ ws) changed notified h = (above ws h.0, rises-news ws changed notified h.1)
  where
    above : (vs : List Watched) → AllByRecursion (λ v. w.client < v.client) vs →
        AllByRecursion (λ v. w.client < v.client) (with_news changed notified vs)
    above [] a = tt
    above (v ∷ vs) a = (a.0, above vs a.1)

abbrev after_moment : Moment → List Watched → List Watched
after_moment m ws = with_news m.changed m.notified ws

-- the clients after an event agree with what happened, that event included
pub agree_after : (m : Moment) (earlier : List Moment) (ws : List Watched) → Rises ws → AgreeBut m earlier ws →
    ((c : ℕ) → connects c m ≡ true → news m.changed m.notified c ≡ none) →
    m.reports ≡ reports_of (after_moment m ws) → Agree (m ∷ earlier) (after_reports (after_moment m ws))
agree_after m earlier ws rises agree quiet reports =
    each ws agree (λ x. reports_are_due x (after_moment m ws) (rises-news ws m.changed m.notified rises))
  where
    each : (vs : List Watched) → AgreeBut m earlier vs →
        ((x : Subsystem) → AllByRecursion (λ w. list_any (λ r. (r.client == w.client) && contains r.changed x)
        (reports_of (after_moment m ws)) ≡ contains (due w) x) (after_moment m vs)) →
        Agree (m ∷ earlier) (after_reports (after_moment m vs))
    each [] a told = tt
    each (v ∷ vs) a told = (
      set_after m earlier v a.0 (quiet v.client) (λ x. ap (list_any (λ r. (r.client == v.client) && contains r.changed x)) reports
          ∙ let t = told x in t.0)
          ∙ ap (pending_of (m ∷ earlier)) (sym (client-reported (grown (news_in m v) v) (is_empty (due (grown (news_in m v) v))))),
      each vs a.1 (λ x. let t = told x in t.1),
    )

-- Sets of subsystems join in any grouping.
or_assoc : (a b c : Bool) → ((a || b) || c) ≡ (a || (b || c))
or_assoc true b c = refl
or_assoc false b c = refl

pub union_assoc : (a b c : Subsystems) → union (union a b) c ≡ union a (union b c)
union_assoc a b c = set_ext _ _ (λ x.
    contains-set_of (λ y. contains (union a b) y || contains c y) x
    ∙ ap (λ v. v || contains c x) (contains-set_of (λ y. contains a y || contains b y) x)
    ∙ or_assoc (contains a x) (contains b x) (contains c x)
    ∙ ap (λ v. contains a x || v) (sym (contains-set_of (λ y. contains b y || contains c y) x))
    ∙ sym (contains-set_of (λ y. contains a y || contains (union b c) y) x))

-- what is marked for all, and `message` for those that are notified, is what is news
one_marked : (w : Watched) (changed : Subsystems) (among : Bool) →
    cond among (grown (only Message) (grown changed w)) (grown changed w) ≡ grown (cond among (union changed (only Message)) changed) w
one_marked w changed true = λ i. record w { pending = union_assoc w.pending changed (only Message) i }
one_marked w changed false = refl

pub news_marked : (ws : List Watched) (changed : Subsystems) (notified : List ℕ) →
    marked_some (marked ws changed) notified (only Message) ≡ with_news changed notified ws
news_marked [] changed notified = refl
news_marked (w ∷ ws) changed notified =
    λ i. one_marked w changed (nat_among w.client notified) i ∷ news_marked ws changed notified i
