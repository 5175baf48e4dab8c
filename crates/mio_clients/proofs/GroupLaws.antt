-- Requests that are served together.
use Rattle.std.proofs.Common.{◌≡◌, ◌≢◌, ◌⊎◌, inl, inr, ℕ, zero, suc, ◌+◌, ◌-◌, ◌*◌, ◌<◌, ◌≤◌, ◌==◌, List, [], ◌∷◌, ◌++◌, length, take, drop}
use Rattle.std.proofs.Common.{Option, Some, Bool, true, false, length-append, refl, sym, subst, ◌∙◌, ap, append_assoc, arith}
use Rattle.std.specs.List.{AllByRecursion}
use Rattle.std.specs.Prelude.{get_or, sum_by, IfSome, MatchOption, None}
use Rattle.std.proofs.lemmas.List.{append-nil, at_drop_all, drop_more}
use Rattle.std.proofs.lemmas.List.Sums.{sum_by-append, sum_by-cons}
use Rattle.std.proofs.lemmas.Bool.{eqb-true, eqb-false}
use Rattle.slab.specs.Slab.{Slab, get, slab_len}
use Rattle.command_text.specs.declared.request.Request.{Request}
use Rattle.command_text.specs.declared.request.Request.TheVariants.{Single, OkList, Noidle}
use Rattle.command_text.specs.declared.request.Request.TheVariants as requests
use Rattle.daemon_core.specs.declared.event.Event.{Event}
use Rattle.daemon_core.specs.declared.outcome.Output.{Output}
use Rattle.live_stage.specs.Answer.{Answer}
use Rattle.live_stage.specs.Group.{AreParted, answer_looks, asked_by, most_looks}
use Rattle.stage_workers.specs.declared.served.Served.{Served as ServedEvent}
use Rattle.stage_workers.specs.Group.{passed_by}
use Rattle.stage_workers.specs.PassState.{PassState}
use Rattle.mio_clients.specs.declared.client.Client.{Client}
use Rattle.mio_clients.specs.declared.event.ClientEvent.{ClientEvent}
use Rattle.mio_clients.specs.declared.event.ClientEvent.TheVariants as events
use Rattle.mio_clients.specs.declared.part.Part.{Part}
use Rattle.mio_clients.specs.declared.part.Part.TheVariants.{Served}
use Rattle.mio_clients.specs.Events.{asked_by_event, asked_in}
use Rattle.mio_clients.specs.Connections.{ConnectionsState, IsVacant}
use Rattle.mio_clients.specs.declared.queue.Place.{Place}
use Rattle.mio_clients.specs.Grouping.{AreClientsOf, AreGone, PutsBack, PutsBackOne, TakesGroup, asked_of_all, TakesMany, group_len, len_by, parts_of, place_of}
use Rattle.mio_clients.specs.Later.{no_bytes, no_requests}
use Rattle.mio_clients.specs.Leaving.{AllFollow, IsAmong, IsLeft}
use Rattle.mio_clients.specs.Parts.{RefusesLast, Serves, asked_of, bytes_in, looks_in, looks_of, refuses, requests_in, sent_by_served, served_count}
use Rattle.mio_clients.specs.Waiting.{QuietBehind, StaysQuiet, TakesFirst}
use Rattle.mio_clients.proofs.FollowLaws.{all_itself, all_same, all_then_none, all_twice}
use Rattle.mio_clients.proofs.LeavingLaws.{all_of, leaves_from, leaves_lost}
use Rattle.mio_clients.proofs.TurnLaws.{go_from, left_from, vacant_as}
use Rattle.mio_clients.proofs.WaitingLaws.{takes_one}

-- ---- requests

pub asked_append : (c : ℕ) (xs ys : List Event) → asked_of_all c (xs ++ ys) ≡ asked_of_all c xs ++ asked_of_all c ys
asked_append c [] ys = refl
asked_append c (x ∷ xs) ys =
    ap (λ t. asked_of c x ++ t) (asked_append c xs ys) ∙ sym (append_assoc (asked_of c x) (asked_of_all c xs) (asked_of_all c ys))

pub asked_end : (c : ℕ) (xs : List Event) (x : Event) (rest : List Request)
    → asked_of_all c (xs ++ x ∷ []) ++ rest ≡ asked_of_all c xs ++ (asked_of c x ++ rest)
asked_end c xs x rest =
    ap (λ t. t ++ rest) (asked_append c xs (x ∷ []) ∙ ap (λ t. asked_of_all c xs ++ t) (append-nil (asked_of c x)))
    ∙ append_assoc (asked_of_all c xs) (asked_of c x) rest

nothing_left : (xs ys : List Request) → xs ++ ys ≡ [] → xs ≡ []
nothing_left [] ys none = refl
nothing_left (x ∷ xs) ys none = absurd (cc none)

nothing_right : (xs ys : List Request) → xs ++ ys ≡ [] → ys ≡ []
nothing_right [] ys none = none
nothing_right (x ∷ xs) ys none = absurd (cc none)

-- nobody asks by a part of what nobody asks by
pub asked_none_behind : (c : ℕ) (all xs ys : List Event) → all ≡ xs ++ ys → asked_of_all c all ≡ [] → asked_of_all c ys ≡ []
asked_none_behind c all xs ys is none =
    nothing_right (asked_of_all c xs) (asked_of_all c ys) (sym (asked_append c xs ys) ∙ ap (asked_of_all c) (sym is) ∙ none)

pub asked_none_last : (c : ℕ) (all xs : List Event) (x : Event) → all ≡ xs ++ x ∷ [] → asked_of_all c all ≡ [] → asked_of_all c xs ≡ []
asked_none_last c all xs x is none =
    nothing_left (asked_of_all c xs) (asked_of_all c (x ∷ []))
    (sym (asked_append c xs (x ∷ [])) ∙ ap (asked_of_all c) (sym is) ∙ none)

pub asked_none_one : (c : ℕ) (all xs : List Event) (x : Event) → all ≡ xs ++ x ∷ [] → asked_of_all c all ≡ [] → asked_of c x ≡ []
asked_none_one c all xs x is none = sym (append-nil (asked_of c x)) ∙ asked_none_behind c all xs (x ∷ []) is none

pub asked_none_more : (c : ℕ) (xs ys : List Event) (x : Event) → ys ≡ xs ++ x ∷ [] → asked_of_all c xs ≡ [] → asked_of c x ≡ []
    → asked_of_all c ys ≡ []
asked_none_more c xs ys x is none more =
    ap (asked_of_all c) is ∙ (asked_append c xs (x ∷ [])
    ∙ (ap (λ t. t ++ asked_of_all c (x ∷ [])) none ∙ (append-nil (asked_of c x) ∙ more)))

-- there is room for one event more where there is some for those that were taken, if any were
pub room_more : (n clients room after : ℕ) → (0 < n → clients + n ≤ room) → clients + 1 ≤ after → room + 1 ≤ after → clients + (n + 1) ≤ after
room_more zero clients room after so_far one grows = omega (arith, one)
room_more (suc n) clients room after so_far one grows = (let most = so_far (omega arith) in omega (arith, most, grows))

pub some_len : {A : Type 0} (xs : List A) → xs ≢ [] → 0 < length xs
some_len [] some = absurd (some refl)
some_len (x ∷ xs) some = omega arith

pub some_of : {A : Type 0} (xs : List A) → 0 < length xs → xs ≢ []
some_of xs some is = (let none = ap length is in omega (arith, none, some))

-- of what nobody asks by nobody asks by the first
pub pop_known : (popped : Option ClientEvent) (old new : List ClientEvent) (last : ℕ)
    → MatchOption popped ((old ≡ []) × (new ≡ [])) (λ e. old ≡ e ∷ new) → ((c : ℕ) → last < c → asked_in c old ≡ [])
    → IfSome popped (λ e. (c : ℕ) → last < c → asked_by_event c e ≡ [])
pop_known None old new last is none = tt
pop_known (Some e) old new last is none =
    λ c later. nothing_left (asked_by_event c e) (asked_in c new) (ap (asked_in c) (sym is) ∙ none c later)

pub pop_none_later : (popped : Option ClientEvent) (old new : List ClientEvent) (c : ℕ)
    → MatchOption popped ((old ≡ []) × (new ≡ [])) (λ e. old ≡ e ∷ new) → asked_in c old ≡ [] → asked_in c new ≡ []
pop_none_later None old new c is none = ap (asked_in c) is.1
pop_none_later (Some e) old new c is none = nothing_right (asked_by_event c e) (asked_in c new) (ap (asked_in c) (sym is) ∙ none)

-- ---- events that are left

pub quiet_more : (waits : Bool) (n : ℕ) (es : List ClientEvent) → QuietBehind waits n es → QuietBehind waits (suc n) es
quiet_more waits zero [] h = tt
quiet_more waits zero (e ∷ es) h = h.1
quiet_more waits (suc n) [] h = tt
quiet_more waits (suc n) (e ∷ es) h = quiet_more waits n es h

pub quiet_as : (waits : Bool) (m n : ℕ) (es : List ClientEvent) → m ≡ n → QuietBehind waits m es → QuietBehind waits n es
quiet_as waits m n es same h = subst (λ (t : ℕ). QuietBehind waits t es) same h

-- ---- how many events are in a group

group_step : (m : ℕ) (e : ClientEvent) (rest : List ClientEvent) (p : Place) → place_of e ≡ p
    → group_len (suc m) (e ∷ rest) ≡ len_by p (group_len m rest)
group_step m e rest p is = ap (λ (t : Place). len_by t (group_len m rest)) is

pub group_none : (n : ℕ) → group_len n [] ≡ 0
group_none zero = refl
group_none (suc n) = refl

-- with the event at a place, and those behind it
pub group_at : (limit k : ℕ) (es : List ClientEvent) (e : ClientEvent) (p : Place) → k < limit → k < length es → e ≡ get_or es k e
    → place_of e ≡ p → group_len (limit - k) (drop k es) ≡ len_by p (group_len (limit - (k + 1)) (drop (k + 1) es))
group_at limit k es e p below there is place =
    let m = limit - (k + 1) in
    let one_more : limit - k ≡ suc m = omega (arith, below) in
    ap (λ (n : ℕ). group_len n (drop k es)) one_more
    ∙ ap (λ (l : List ClientEvent). group_len (suc m) l) (drop_more es k e there ∙ ap (λ (x : ClientEvent). x ∷ drop (k + 1) es) (sym is))
    ∙ group_step m e (drop (k + 1) es) p place

pub group_end : (limit k : ℕ) (es : List ClientEvent) → length es ≤ k → group_len (limit - k) (drop k es) ≡ 0
group_end limit k es behind = at_drop_all (λ (l : List ClientEvent). group_len (limit - k) l) es k behind ∙ group_none (limit - k)

pub group_full : (limit k : ℕ) (es : List ClientEvent) → limit ≤ k → group_len (limit - k) es ≡ 0
group_full limit k es full =
    let none : limit - k ≡ 0 = omega (arith, full) in
    ap (λ (n : ℕ). group_len n es) none

pub group_most : (n : ℕ) (es : List ClientEvent) → group_len n es ≤ n
group_most zero es = omega arith
group_most (suc n) [] = omega arith
group_most (suc n) (events.Connect client ∷ es) = omega arith
group_most (suc n) (events.Seeking client request ∷ es) = omega arith
group_most (suc n) (events.Picture client told ∷ es) = omega arith
group_most (suc n) (events.Gone client ∷ es) = omega arith
group_most (suc n) (events.Request client (Single line) ∷ es) = (let more = group_most n es in omega (arith, more))
group_most (suc n) (events.Request client (requests.List lines) ∷ es) = omega arith
group_most (suc n) (events.Request client (OkList lines) ∷ es) = omega arith
group_most (suc n) (events.Request client Noidle ∷ es) = (let more = group_most n es in omega (arith, more))

-- no more than there are
pub group_few : (n : ℕ) (es : List ClientEvent) → group_len n es ≤ length es
group_few zero es = omega arith
group_few (suc n) [] = omega arith
group_few (suc n) (events.Connect client ∷ es) = omega arith
group_few (suc n) (events.Seeking client request ∷ es) = omega arith
group_few (suc n) (events.Picture client told ∷ es) = omega arith
group_few (suc n) (events.Gone client ∷ es) = omega arith
group_few (suc n) (events.Request client (Single line) ∷ es) = (let more = group_few n es in omega (arith, more))
group_few (suc n) (events.Request client (requests.List lines) ∷ es) = omega arith
group_few (suc n) (events.Request client (OkList lines) ∷ es) = omega arith
group_few (suc n) (events.Request client Noidle ∷ es) = (let more = group_few n es in omega (arith, more))

-- the requests of a group are among those that are left
pub group_left : (waits : Bool) (limit n : ℕ) (es : List ClientEvent) → QuietBehind waits n es → group_len limit es ≤ n
group_left waits zero n es h = omega arith
group_left waits (suc limit) n [] h = omega arith
group_left waits (suc limit) n (events.Connect client ∷ es) h = omega arith
group_left waits (suc limit) n (events.Seeking client request ∷ es) h = omega arith
group_left waits (suc limit) n (events.Picture client told ∷ es) h = omega arith
group_left waits (suc limit) n (events.Gone client ∷ es) h = omega arith
group_left waits (suc limit) zero (events.Request client (Single line) ∷ es) h = absurd h.0
group_left waits (suc limit) zero (events.Request client (requests.List lines) ∷ es) h = absurd h.0
group_left waits (suc limit) zero (events.Request client (OkList lines) ∷ es) h = absurd h.0
group_left waits (suc limit) zero (events.Request client Noidle ∷ es) h = absurd h.0
group_left waits (suc limit) (suc n) (events.Request client (Single line) ∷ es) h = (let more = group_left waits limit n es h in omega (arith, more))
group_left waits (suc limit) (suc n) (events.Request client (requests.List lines) ∷ es) h = omega arith
group_left waits (suc limit) (suc n) (events.Request client (OkList lines) ∷ es) h = omega arith
group_left waits (suc limit) (suc n) (events.Request client Noidle ∷ es) h = (let more = group_left waits limit n es h in omega (arith, more))

-- ---- the clients of events

pub clients_end : (xs : List Event) (ids : List ℕ) (x : Event) (id : ℕ) → AreClientsOf xs ids
    → ((c : ℕ) → id ≢ c → asked_of c x ≡ []) → AreClientsOf (xs ++ x ∷ []) (ids ++ id ∷ [])
clients_end [] [] x id h one = (one, tt)
clients_end [] (i ∷ ids) x id h one = absurd h
clients_end (y ∷ xs) [] x id h one = absurd h
clients_end (y ∷ xs) (i ∷ ids) x id h one = (h.0, clients_end xs ids x id h.1 one)

pub clients_behind : (xs ys : List Event) (ids : List ℕ) → AreClientsOf (xs ++ ys) ids → AreClientsOf ys (drop (length xs) ids)
clients_behind [] ys ids h = h
clients_behind (x ∷ xs) ys [] h = absurd h
clients_behind (x ∷ xs) ys (id ∷ ids) h = clients_behind xs ys ids h.1

pub clients_front : (xs ys : List Event) (ids : List ℕ) → AreClientsOf (xs ++ ys) ids → AreClientsOf xs (take (length xs) ids)
clients_front [] ys ids h = tt
clients_front (x ∷ xs) ys [] h = absurd h
clients_front (x ∷ xs) ys (id ∷ ids) h = (h.0, clients_front xs ys ids h.1)

pub clients_between : (front lost rest : List Event) (ids : List ℕ) (from to : ℕ) → AreClientsOf (front ++ (lost ++ rest)) ids
    → from ≡ length front → to ≡ length front + length lost → AreClientsOf lost (drop from (take to ids))
clients_between front lost rest ids from to of first last =
    let many : length (front ++ lost) ≡ to = omega (arith, last, length-append front lost) in
    let begun : AreClientsOf (front ++ lost) (take to ids) =
    subst (λ (n : ℕ). AreClientsOf (front ++ lost) (take n ids)) many
    (clients_front (front ++ lost) rest ids (subst (λ (l : List Event). AreClientsOf l ids) (sym (append_assoc front lost rest)) of)) in
    subst (λ (n : ℕ). AreClientsOf lost (drop n (take to ids))) (sym first) (clients_behind front lost (take to ids) begun)

-- ---- parts

pub requests_in_group : (D : Type 0) (c : ℕ) (before : List (List Output)) (turns : List Answer)
    → requests_in {D = D} (parts_of before turns) c ≡ asked_of_all c (asked_by turns)
requests_in_group D c before [] = refl
requests_in_group D c before (t ∷ turns) = ap (λ r. asked_of c t.asked ++ r) (requests_in_group D c [] turns)

pub served_in_group : (D : Type 0) (before : List (List Output)) (turns : List Answer)
    → served_count {D = D} (parts_of before turns) ≡ length turns
served_in_group D before [] = refl
served_in_group D before (t ∷ turns) = (let more = served_in_group D [] turns in omega (arith, more))

pub group_refuses : (D : Type 0) (before : List (List Output)) (turns : List Answer) → refuses {D = D} (parts_of before turns) ≡ false
group_refuses D before [] = refl
group_refuses D before (t ∷ turns) = group_refuses D [] turns

pub group_refuses_last : (D : Type 0) (before : List (List Output)) (turns : List Answer) → RefusesLast {D = D} (parts_of before turns)
group_refuses_last D before [] = tt
group_refuses_last D before (t ∷ turns) = group_refuses_last D [] turns

looks_in_group : (D : Type 0) (before : List (List Output)) (turns : List Answer)
    → looks_in {D = D} (parts_of before turns) ≡ sum_by answer_looks turns
looks_in_group D before [] = refl
looks_in_group D before (t ∷ turns) =
    let s : ServedEvent D = record { before = before; turn = t } in
    sum_by-cons looks_of (Served s) (parts_of [] turns)
    ∙ (ap (λ (n : ℕ). answer_looks t + n) (looks_in_group D [] turns) ∙ sym (sum_by-cons answer_looks t turns))

-- with what a group looked at
pub looks_grouped : {D : Type 0} (ps qs : List (Part D)) (before : List (List Output)) (turns : List Answer) → qs ≡ ps ++ parts_of before turns
    → sum_by answer_looks turns ≤ 2 * most_looks → looks_in qs ≤ looks_in ps + 2 * most_looks
looks_grouped {D} ps qs before turns is within =
    let whole = ap looks_in is ∙ sum_by-append looks_of ps (parts_of before turns) in
    omega (arith, whole, looks_in_group D before turns, within)

pub parts_first : {D : Type 0} (ps : List (Part D)) (s : ServedEvent D) (turns rest : List Answer) → turns ≡ s.turn ∷ rest
    → (ps ++ Served s ∷ []) ++ parts_of [] rest ≡ ps ++ parts_of s.before turns
parts_first ps s turns rest is =
    append_assoc ps (Served s ∷ []) (parts_of [] rest) ∙ ap (λ (l : List Answer). ps ++ parts_of s.before l) (sym is)

pub parts_none : {D : Type 0} (ps : List (Part D)) (before : List (List Output)) (turns : List Answer) → length turns ≡ 0
    → ps ++ parts_of before turns ≡ ps
parts_none ps before [] none = append-nil ps
parts_none ps before (t ∷ turns) none = absurd (omega (arith, none))

-- ---- what became of the events of a group

-- those that were refused
pub parted_lost : (all : List Event) (turns : List Answer) (is_refused : Bool) (rest : List Event) → AreParted all turns is_refused rest
    → (lost : List Event) × (all ≡ asked_by turns ++ (lost ++ rest))
parted_lost all turns false rest h = ([], h)
parted_lost all turns true rest h = (h.0 ∷ [], h.1)

-- one event is many
pub many_one : (es fs : List ClientEvent) → TakesFirst es fs → TakesMany 1 es fs
many_one es fs takes = λ waits n some h. takes_one waits n (n - 1) es fs (omega (arith, some)) takes h

pub many_then : (k : ℕ) (es fs gs : List ClientEvent) → TakesMany k es fs → StaysQuiet fs gs → TakesMany k es gs
many_then k es fs gs takes stays = λ waits n some h. stays waits (n - k) (takes waits n some h)

-- how many events were parted
pub parted_len : (all front lost rest : List Event) → all ≡ front ++ (lost ++ rest) → length all ≡ length front + (length lost + length rest)
parted_len all front lost rest is =
    ap length is ∙ omega (arith, length-append front (lost ++ rest), length-append lost rest)

pub asked_by_len : (turns : List Answer) → length (asked_by turns) ≡ length turns
asked_by_len [] = refl
asked_by_len (t ∷ turns) = (let more = asked_by_len turns in omega (arith, more))

module _ {S : Type 0} where
  -- events were taken, of which some were put back
  pub asked_between : (a p b : ConnectionsState S) (all : List Event) (ids : List ℕ) (front lost rest : List Event)
      → TakesGroup a p all ids → PutsBack p b rest → all ≡ front ++ (lost ++ rest)
      → (c : ℕ) → asked_in c a.events ≡ asked_of_all c front ++ (asked_of_all c lost ++ asked_in c b.events)
  asked_between a p b all ids front lost rest takes puts is c =
      let three : asked_of_all c all ≡ asked_of_all c front ++ (asked_of_all c lost ++ asked_of_all c rest) =
      ap (asked_of_all c) is ∙ asked_append c front (lost ++ rest) ∙ ap (λ t. asked_of_all c front ++ t) (asked_append c lost rest) in
      takes.asked c ∙ ap (λ t. t ++ asked_in c p.events) three
      ∙ append_assoc (asked_of_all c front) (asked_of_all c lost ++ asked_of_all c rest) (asked_in c p.events)
      ∙ ap (λ t. asked_of_all c front ++ t)
      (append_assoc (asked_of_all c lost) (asked_of_all c rest) (asked_in c p.events)
      ∙ ap (λ t. asked_of_all c lost ++ t) (sym (puts.asked c)))

  pub takes_none : (a : ConnectionsState S) → TakesGroup a a [] []
  takes_none a = record {
    same = refl;
    asked = λ c. refl;
    whose = tt;
    quiet = λ waits n h. quiet_as waits (n + 0) n a.events (omega arith) h;
  }

  pub takes_begin : (a : ConnectionsState S) (xs : List Event) (ids : List ℕ) → xs ≡ [] → ids ≡ [] → TakesGroup a a xs ids
  takes_begin a xs ids none no_ids =
      subst (λ (l : List Event). TakesGroup a a l ids) (sym none)
      (subst (λ (l : List ℕ). TakesGroup a a [] l) (sym no_ids) (takes_none a))

  -- one event more is taken
  pub takes_more : (a b p : ConnectionsState S) (xs : List Event) (ids : List ℕ) (e : ClientEvent) (x : Event) (id : ℕ)
      → TakesGroup a b xs ids → p ≡ record b { events = p.events; room = p.room } → b.events ≡ e ∷ p.events
      → ((c : ℕ) → asked_of c x ≡ asked_by_event c e) → ((c : ℕ) → id ≢ c → asked_of c x ≡ [])
      → TakesGroup a p (xs ++ x ∷ []) (ids ++ id ∷ [])
  takes_more a b p xs ids e x id takes same popped asks of = record {
    same = same ∙ ap (λ (s : ConnectionsState S). let t : ConnectionsState S = record s { events = p.events; room = p.room } in t) takes.same;
    asked = λ c. takes.asked c
        ∙ (ap (λ t. asked_of_all c xs ++ t)
        (ap (asked_in c) popped ∙ ap (λ t. t ++ asked_in c p.events) (sym (asks c)))
        ∙ sym (asked_end c xs x (asked_in c p.events)));
    whose = clients_end xs ids x id takes.whose of;
    quiet = λ waits n h.
        let longer : n + length (xs ++ x ∷ []) ≡ suc n + length xs = omega (arith, length-append xs (x ∷ [])) in
        let one = takes.quiet waits (suc n) (quiet_as waits (n + length (xs ++ x ∷ [])) (suc n + length xs) a.events longer h) in
        subst (λ (l : List ClientEvent). QuietBehind waits (suc n) l) popped one;
  }

  pub takes_more_as : (a b p : ConnectionsState S) (xs ys : List Event) (ids js : List ℕ) (e : ClientEvent) (x : Event) (id : ℕ)
      → TakesGroup a b xs ids → p ≡ record b { events = p.events; room = p.room } → b.events ≡ e ∷ p.events
      → ((c : ℕ) → asked_of c x ≡ asked_by_event c e) → ((c : ℕ) → id ≢ c → asked_of c x ≡ [])
      → ys ≡ xs ++ x ∷ [] → js ≡ ids ++ id ∷ [] → TakesGroup a p ys js
  takes_more_as a b p xs ys ids js e x id takes same popped asks of is are =
      subst (λ (l : List Event). TakesGroup a p l js) (sym is)
      (subst (λ (l : List ℕ). TakesGroup a p (xs ++ x ∷ []) l) (sym are) (takes_more a b p xs ids e x id takes same popped asks of))

  -- ---- events that are put back

  pub puts_nothing : (a : ConnectionsState S) (event : Event) → ((c : ℕ) → asked_of c event ≡ []) → PutsBackOne a a event
  puts_nothing a event none = record {
    same = refl;
    asked = λ c. ap (λ t. t ++ asked_in c a.events) (sym (none c));
    quiet = λ waits n h. quiet_as waits (suc n) (n + 1) a.events (omega arith) (quiet_more waits n a.events h);
    room = omega arith;
  }

  pub puts_event : (a b : ConnectionsState S) (event : Event) (e : ClientEvent)
      → b ≡ record a { events = e ∷ a.events; room = b.room } → ((c : ℕ) → asked_by_event c e ≡ asked_of c event)
      → a.room ≤ b.room + 1 → PutsBackOne a b event
  puts_event a b event e same asks room =
      let there : b.events ≡ e ∷ a.events = ap (λ (t : ConnectionsState S). t.events) same in
      record {
        same = same ∙ ap (λ (l : List ClientEvent). let t : ConnectionsState S = record a { events = l; room = b.room } in t) (sym there);
        asked = λ c. ap (asked_in c) there ∙ ap (λ t. t ++ asked_in c a.events) (asks c);
        quiet = λ waits n h. subst (λ (l : List ClientEvent). QuietBehind waits (n + 1) l) (sym there)
            (quiet_as waits (suc n) (n + 1) (e ∷ a.events) (omega arith) h);
        room = room;
      }

  -- Of these events those are left to be put back, and those behind them were.
  pub record IsPuttingBack (first now : ConnectionsState S) (all rest : List Event) : Type 0 where
    pub same : now ≡ record first { events = now.events; room = now.room }
    pub asked : (c : ℕ) → asked_of_all c rest ++ asked_in c now.events ≡ asked_of_all c all ++ asked_in c first.events
    pub quiet : (waits : Bool) (n m : ℕ) → m + length rest ≡ length all → QuietBehind waits n first.events
        → QuietBehind waits (n + m) now.events
    pub few : length rest ≤ length all
    pub known : (c : ℕ) → now.last_id < c → asked_of_all c rest ≡ []
    pub room : slab_len now.clients + length rest ≤ now.room

  pub putting_begins : (a : ConnectionsState S) (all : List Event) → ((c : ℕ) → a.last_id < c → asked_of_all c all ≡ [])
      → slab_len a.clients + length all ≤ a.room → IsPuttingBack a a all all
  putting_begins a all known room = record {
    same = refl;
    asked = λ c. refl;
    quiet = λ waits n m is h. quiet_as waits n (n + m) a.events (omega (arith, is)) h;
    few = omega arith;
    known = known;
    room = room;
  }

  pub putting_more : (a b d : ConnectionsState S) (all rest fewer : List Event) (event : Event) → rest ≡ fewer ++ event ∷ []
      → IsPuttingBack a b all rest → PutsBackOne b d event → IsPuttingBack a d all fewer
  putting_more a b d all rest fewer event is so_far one =
      let longer : length rest ≡ length fewer + 1 = ap length is ∙ omega (arith, length-append fewer (event ∷ [])) in
      let same_len : slab_len d.clients ≡ slab_len b.clients = ap (λ (t : ConnectionsState S). slab_len t.clients) one.same in
      let same_last : d.last_id ≡ b.last_id = ap (λ (t : ConnectionsState S). t.last_id) one.same in
      record {
        same = one.same ∙ ap (λ (s : ConnectionsState S). let t : ConnectionsState S = record s { events = d.events; room = d.room } in t) so_far.same;
        asked = λ c. ap (λ t. asked_of_all c fewer ++ t) (one.asked c) ∙ (sym (asked_end c fewer event (asked_in c b.events))
            ∙ (ap (λ (l : List Event). asked_of_all c l ++ asked_in c b.events) (sym is) ∙ so_far.asked c));
        quiet = λ waits n m sum h. quiet_as waits (n + (m - 1) + 1) (n + m) d.events (omega (arith, sum, longer, so_far.few))
            (one.quiet waits (n + (m - 1)) (so_far.quiet waits n (m - 1) (omega (arith, sum, longer, so_far.few)) h));
        few = omega (arith, longer, so_far.few);
        known = λ c later. asked_none_last c rest fewer event is (so_far.known c (omega (arith, later, same_last)));
        room = omega (arith, longer, so_far.room, one.room, same_len);
      }

  pub putting_ends : (a b : ConnectionsState S) (all rest : List Event) → length rest ≡ 0 → IsPuttingBack a b all rest → PutsBack a b all
  putting_ends a b all (event ∷ rest) none so_far = absurd (omega (arith, none))
  putting_ends a b all [] none so_far = record {
    same = so_far.same;
    asked = so_far.asked;
    quiet = λ waits n h. so_far.quiet waits n (length all) (omega arith) h;
  }

  -- ---- the whole group

  -- so many of a group were taken for good
  pub group_quiet : (limit : ℕ) (a p b : ConnectionsState S) (all rest : List Event) (ids : List ℕ) → TakesGroup a p all ids → PutsBack p b rest
      → length all ≡ group_len limit a.events → length rest ≤ length all → (waits : Bool) (n : ℕ) → QuietBehind waits n a.events
      → QuietBehind waits (n - (length all - length rest)) b.events
  group_quiet limit a p b all rest ids takes puts whole fewer waits n h =
      let among = group_left waits limit n a.events h in
      quiet_as waits (n - length all + length rest) (n - (length all - length rest)) b.events (omega (arith, whole, fewer, among))
      (puts.quiet waits (n - length all)
      (takes.quiet waits (n - length all) (quiet_as waits n (n - length all + length all) a.events (omega (arith, whole, among)) h)))

  pub same_between : (a p b : ConnectionsState S) (all rest : List Event) (ids : List ℕ) → TakesGroup a p all ids → PutsBack p b rest
      → b ≡ record a { events = b.events; room = b.room }
  same_between a p b all rest ids takes puts =
      puts.same ∙ ap (λ (s : ConnectionsState S). let t : ConnectionsState S = record s { events = b.events; room = b.room } in t) takes.same

module _ {S : Type 0} (remaining contents : S → Option (List ℕ)) where
  -- ---- clients that are gone

  not_among : (id : ℕ) (xs : List (Client S)) → AllByRecursion (λ x. x.id ≢ id) xs → IsAmong id xs → ⊥
  not_among id [] h among = among
  not_among id (x ∷ xs) h among = elim among [
    | inl is ↦ h.0 is
    | inr more ↦ not_among id xs h.1 more
  ]

  other_left : (a b : ConnectionsState S) (id : ℕ) (bytes : List ℕ) (served : List Request) (x : Client S) → b.last_id ≡ a.last_id
      → IsVacant a id → IsLeft remaining contents bytes served a b x → x.id ≢ id
  other_left a b id bytes served x last vacant l is = elim l.leaves [
    | inl k ↦ vacant k.key k.before k.there (sym k.leaves.same ∙ is)
    | inr new ↦ absurd (omega (arith, new.later, new.leaves.same, l.known, last))
  ]

  pub gone_stays : (a b : ConnectionsState S) (id : ℕ) → IsVacant a id → asked_in id a.events ≡ []
      → AllFollow remaining contents no_bytes no_requests a b → IsVacant b id × (asked_in id b.events ≡ [])
  gone_stays a b id vacant none p =
      let still : IsVacant b id = λ key client there same.
      (let k = p.later.each key client there in vacant key k.before k.there (sym k.goes_on.moves.same ∙ same)) in
      let apart = not_among id p.gone (all_of (λ x. IsLeft remaining contents [] [] a b x) (λ x. x.id ≢ id) p.gone
      (λ x l. other_left a b id [] [] x p.later.last_id vacant l) p.leave.each) in
      let rest = p.leave.absent id vacant still apart in
      (still, nothing_left (asked_in id b.events) rest.0 (rest.1 ∙ none))

  pub gone_none : (a : ConnectionsState S) (ids : List ℕ) → length ids ≡ 0 → AreGone a ids
  gone_none a [] none = tt
  gone_none a (id ∷ ids) none = absurd (omega (arith, none))

  pub gone_more : (a b : ConnectionsState S) (ids rest : List ℕ) (id : ℕ) → ids ≡ id ∷ rest → IsVacant a id → asked_in id a.events ≡ []
      → AllFollow remaining contents no_bytes no_requests a b → AreGone b rest → AreGone b ids
  gone_more a b ids rest id is vacant none p more =
      subst (λ (l : List ℕ). AreGone b l) (sym is) (gone_stays a b id vacant none p, more)

  -- ---- answers that are queued

  module _ {D : Type 0} where
    -- one answer, and then those behind it
    pub queued_first : (a b d : ConnectionsState S) (s : ServedEvent D) (turns rest : List Answer) → turns ≡ s.turn ∷ rest
        → AllFollow remaining contents (sent_by_served s) no_requests a b
        → AllFollow remaining contents (bytes_in (parts_of {D = D} [] rest)) no_requests b d
        → AllFollow remaining contents (bytes_in (parts_of {D = D} s.before turns)) no_requests a d
    queued_first a b d s turns rest is p q =
        all_same remaining contents a d (λ i. sent_by_served s i ++ bytes_in (parts_of {D = D} [] rest) i)
        (bytes_in (parts_of {D = D} s.before turns)) (λ i. no_requests i ++ no_requests i) no_requests
        (λ i. ap (λ (l : List Answer). bytes_in (parts_of {D = D} s.before l) i) (sym is)) (λ i. refl)
        (all_twice remaining contents a b d (sent_by_served s) (bytes_in (parts_of {D = D} [] rest)) no_requests no_requests p q)

  pub queued_none : (D : Type 0) (a : ConnectionsState S) (before : List (List Output)) (turns : List Answer) → length turns ≡ 0
      → AllFollow remaining contents (bytes_in (parts_of {D = D} before turns)) no_requests a a
  queued_none D a before [] none = all_itself remaining contents a
  queued_none D a before (t ∷ turns) none = absurd (omega (arith, none))

  -- ---- requests that are lost with their clients

  -- by these events a client asks for nothing, or it is gone
  one_or_gone : (e : ConnectionsState S) (x : Event) (lost : List Event) (id c : ℕ) (t : Bool) → (id == c) ≡ t
      → ((n : ℕ) → id ≢ n → asked_of n x ≡ []) → IsVacant e id × (asked_in id e.events ≡ [])
      → (asked_of_all c lost ≡ []) ⊎ (IsVacant e c × (asked_in c e.events ≡ []))
      → (asked_of_all c (x ∷ lost) ≡ []) ⊎ (IsVacant e c × (asked_in c e.events ≡ []))
  one_or_gone e x lost id c true is of gone more =
      inr (subst (λ (n : ℕ). IsVacant e n × (asked_in n e.events ≡ [])) (eqb-true id c is) gone)
  one_or_gone e x lost id c false is of gone (inl none) =
      inl (ap (λ t. t ++ asked_of_all c lost) (of c (eqb-false id c is)) ∙ none)
  one_or_gone e x lost id c false is of gone (inr there) = inr there

  none_or_gone : (e : ConnectionsState S) (lost : List Event) (ids : List ℕ) (c : ℕ) → AreClientsOf lost ids → AreGone e ids
      → (asked_of_all c lost ≡ []) ⊎ (IsVacant e c × (asked_in c e.events ≡ []))
  none_or_gone e [] ids c of gone = inl refl
  none_or_gone e (x ∷ lost) [] c of gone = absurd of
  none_or_gone e (x ∷ lost) (id ∷ ids) c of gone =
      one_or_gone e x lost id c (id == c) refl of.0 gone.0 (none_or_gone e lost ids c of.1 gone.1)

  -- Events were taken: by the first ones these requests were asked for, which are served, and the others are lost with their clients.
  module _ (a b e : ConnectionsState S) (front : ℕ → List Request) (lost : List Event) (ids : List ℕ) (clients : b.clients ≡ a.clients)
      (last : b.last_id ≡ a.last_id) (here : (c : ℕ) → asked_in c a.events ≡ front c ++ (asked_of_all c lost ++ asked_in c b.events))
      (of : AreClientsOf lost ids) (gone : AreGone e ids) where
    here_if_none : (c : ℕ) → asked_of_all c lost ≡ [] → asked_in c a.events ≡ front c ++ asked_in c b.events
    here_if_none c none = here c ∙ ap (λ t. front c ++ (t ++ asked_in c b.events)) none

    here_of_there : (key : ℕ) (client : Client S) → get e.clients key ≡ Some client
        → (asked_of_all client.id lost ≡ []) ⊎ (IsVacant e client.id × (asked_in client.id e.events ≡ []))
        → asked_in client.id a.events ≡ front client.id ++ asked_in client.id b.events
    here_of_there key client there (inl none) = here_if_none client.id none
    here_of_there key client there (inr is) = absurd (is.0 key client there refl)

    left_or_lost : (bytes : List ℕ) (x : Client S) → e.last_id ≡ b.last_id
        → (asked_of_all x.id lost ≡ []) ⊎ (IsVacant e x.id × (asked_in x.id e.events ≡ []))
        → IsLeft remaining contents bytes [] b e x → IsLeft remaining contents bytes (front x.id ++ []) a e x
    left_or_lost bytes x same (inl none) l =
        left_from remaining contents a b e bytes (front x.id) [] x clients same (here_if_none x.id none) l
    left_or_lost bytes x same (inr is) l = record {
      vacant = l.vacant;
      known = l.known;
      leaves = elim l.leaves [
        | inl k ↦ inl (record {
          key = k.key;
          before = k.before;
          there = ap (λ (s : Slab (Client S)). get s k.key) (sym clients) ∙ k.there;
          leaves = leaves_from remaining contents k.before x bytes (front x.id) [] (asked_in x.id a.events)
              (asked_of_all x.id lost ++ asked_in x.id b.events) (asked_in x.id e.events)
              (leaves_lost remaining contents k.before x bytes (asked_of_all x.id lost ++ asked_in x.id b.events) (asked_in x.id b.events)
              (asked_in x.id e.events) k.leaves is.1) (here x.id);
        })
        | inr new ↦ absurd (omega (arith, new.later, new.leaves.same, l.known, same))
      ];
    }

    absent_or_lost : (n : ℕ) → (asked_of_all n lost ≡ []) ⊎ (IsVacant e n × (asked_in n e.events ≡ []))
        → ((unserved : List Request) × (asked_in n e.events ++ unserved ≡ asked_in n b.events))
        → (unserved : List Request) × ((front n ++ []) ++ (asked_in n e.events ++ unserved) ≡ asked_in n a.events)
    absent_or_lost n (inl none) rest = (
      rest.0,
      ap (λ t. t ++ (asked_in n e.events ++ rest.0)) (append-nil (front n)) ∙ (ap (λ t. front n ++ t) rest.1 ∙ sym (here_if_none n none)),
    )
    absent_or_lost n (inr is) rest =
        let more = asked_of_all n lost ++ asked_in n b.events in (
          more,
          ap (λ t. t ++ (asked_in n e.events ++ more)) (append-nil (front n)) ∙ (ap (λ t. front n ++ (t ++ more)) is.1 ∙ sym (here n)),
        )

    pub all_of_front : (sent : ℕ → List ℕ) → b.left ≡ a.left → AllFollow remaining contents sent no_requests b e
        → AllFollow remaining contents sent (λ i. front i ++ []) a e
    all_of_front sent left q = record {
      later = go_from remaining contents a b e sent no_requests front clients last
          (λ key client there. here_of_there key client there (none_or_gone e lost ids client.id of gone)) q.later;
      gone = q.gone;
      left = q.left ∙ ap (λ t. t ++ q.gone) left;
      leave = record {
        each = all_of (λ x. IsLeft remaining contents (sent x.id) [] b e x)
            (λ x. IsLeft remaining contents (sent x.id) (front x.id ++ []) a e x) q.gone
            (λ x l. left_or_lost (sent x.id) x q.later.last_id (none_or_gone e lost ids x.id of gone) l) q.leave.each;
        stay = λ key client there. q.leave.stay key client (ap (λ (s : Slab (Client S)). get s key) clients ∙ there);
        absent = λ n first then apart. absent_or_lost n (none_or_gone e lost ids n of gone)
            (q.leave.absent n (vacant_as remaining contents a b n clients first) then apart);
      };
    }

  module _ {D : Type 0} where
    -- a group was served
    pub serves_group : (a b e : ConnectionsState S) (before : List (List Output)) (turns : List Answer) (lost : List Event) (ids : List ℕ)
        (ps qs : List (Part D)) (x y : PassState) → b ≡ record a { events = b.events; room = b.room }
        → ((c : ℕ) → asked_in c a.events ≡ asked_of_all c (asked_by turns) ++ (asked_of_all c lost ++ asked_in c b.events))
        → AreClientsOf lost ids → AreGone e ids
        → AllFollow remaining contents (bytes_in (parts_of {D = D} before turns)) no_requests b e
        → qs ≡ ps ++ parts_of before turns → y ≡ passed_by x turns → x.seen + length turns ≤ y.seen
        → Serves remaining contents true a e ps qs x y
    serves_group a b e before turns lost ids ps qs x y same here of gone q added passed later = record {
      added = parts_of before turns;
      parts = added;
      later = all_same remaining contents a e (bytes_in (parts_of {D = D} before turns)) (bytes_in (parts_of {D = D} before turns))
          (λ c. asked_of_all c (asked_by turns) ++ []) (requests_in (parts_of {D = D} before turns)) (λ i. refl)
          (λ i. append-nil (asked_of_all i (asked_by turns)) ∙ sym (requests_in_group D i before turns))
          (all_of_front a b e (λ c. asked_of_all c (asked_by turns)) lost ids (ap (λ (t : ConnectionsState S). t.clients) same)
          (ap (λ (t : ConnectionsState S). t.last_id) same) here of gone (bytes_in (parts_of {D = D} before turns))
          (ap (λ (t : ConnectionsState S). t.left) same) q);
      kind = ap (λ (t : PassState). t.kind) passed;
      share = (let n = ap (λ (t : PassState). t.share) passed in let m = served_in_group D before turns in omega (arith, n, m));
      seen = omega (arith, later);
      refused = group_refuses_last D before turns;
      unrefused = λ _. group_refuses D before turns;
      told = λ no. absurd (cc no);
    }

  -- a group was refused: its clients are gone
  pub all_of_refused : (a b e : ConnectionsState S) (lost : List Event) (ids : List ℕ) → b ≡ record a { events = b.events; room = b.room }
      → ((c : ℕ) → asked_in c a.events ≡ asked_of_all c lost ++ asked_in c b.events) → AreClientsOf lost ids → AreGone e ids
      → AllFollow remaining contents no_bytes no_requests b e → AllFollow remaining contents no_bytes no_requests a e
  all_of_refused a b e lost ids same here of gone q =
      all_of_front a b e no_requests lost ids (ap (λ (t : ConnectionsState S). t.clients) same) (ap (λ (t : ConnectionsState S). t.last_id) same)
      here of gone no_bytes (ap (λ (t : ConnectionsState S). t.left) same) q

  -- a group was taken, of which some were put back, some were answered, and others are lost with their clients
  pub refused_group : (a p b e : ConnectionsState S) (all rest front : List Event) (ids slice : List ℕ) (to : ℕ) → TakesGroup a p all ids
      → PutsBack p b rest → all ≡ front ++ rest → to ≡ length all - length rest → slice ≡ take to ids → AreGone e slice
      → AllFollow remaining contents no_bytes no_requests b e → AllFollow remaining contents no_bytes no_requests a e
  refused_group a p b e all rest front ids slice to takes puts is last sliced gone q =
      let len = parted_len all [] front rest is in
      let of : AreClientsOf front (take to ids) =
      clients_between [] front rest ids 0 to (subst (λ (l : List Event). AreClientsOf l ids) is takes.whose) refl (omega (arith, len, last)) in
      all_of_refused a b e front slice (same_between a p b all rest ids takes puts) (asked_between a p b all ids [] front rest takes puts is)
      (subst (λ (l : List ℕ). AreClientsOf front l) (sym sliced) of) gone q

  module _ {D : Type 0} where
    pub answered_group : (a p b d s e : ConnectionsState S) (all rest lost : List Event) (ids slice : List ℕ) (from to : ℕ)
        (before : List (List Output)) (turns : List Answer) (ps qs : List (Part D)) (x y : PassState) → TakesGroup a p all ids
        → PutsBack p b rest → all ≡ asked_by turns ++ (lost ++ rest) → from ≡ length turns → to ≡ length all - length rest
        → slice ≡ drop from (take to ids) → AreGone e slice
        → AllFollow remaining contents (bytes_in (parts_of {D = D} before turns)) no_requests b d
        → AllFollow remaining contents no_bytes no_requests d s → AllFollow remaining contents no_bytes no_requests s e
        → qs ≡ ps ++ parts_of before turns → y ≡ passed_by x turns → x.seen + length turns ≤ y.seen
        → Serves remaining contents true a e ps qs x y
    answered_group a p b d s e all rest lost ids slice from to before turns ps qs x y takes puts is first last sliced gone q r t added passed
        later =
        let len = parted_len all (asked_by turns) lost rest is in
        let asked = asked_by_len turns in
        let of : AreClientsOf lost (drop from (take to ids)) =
        clients_between (asked_by turns) lost rest ids from to (subst (λ (l : List Event). AreClientsOf l ids) is takes.whose)
        (omega (arith, first, asked)) (omega (arith, len, last)) in
        serves_group a b e before turns lost slice ps qs x y (same_between a p b all rest ids takes puts)
        (asked_between a p b all ids (asked_by turns) lost rest takes puts is)
        (subst (λ (l : List ℕ). AreClientsOf lost l) (sym sliced) of) gone
        (all_then_none remaining contents b s e (bytes_in (parts_of {D = D} before turns)) no_requests
        (all_then_none remaining contents b d s (bytes_in (parts_of {D = D} before turns)) no_requests q r) t) added passed later
