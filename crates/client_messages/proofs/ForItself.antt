-- What a call makes of the clients, as one of them sees it.
use Rattle.std.proofs.Common.{◌≡◌, ◌≤◌, ℕ, Bool, true, false, not, cond, ◌==◌, nat_lt, if◌then◌else◌, List, [], ◌∷◌, ◌++◌, filter, map}
use Rattle.std.proofs.Common.{Option, Some, None, option_map, unwrap_or, refl, sym, ap, ◌∙◌, ltb-true, ltb-false, le-ltb, lt-ltb, eqb-true}
use Rattle.std.proofs.Common.{eq-eqb, ne_eqb, arith}
use Rattle.std.specs.Option.{option_or}
use Rattle.std.proofs.lemmas.Bool.{false≢true, eqb-false}
use Rattle.std.proofs.lemmas.List.Folds.{find-append}
use Rattle.client_messages.specs.declared.listener.Listener.{Listener}
use Rattle.client_messages.specs.declared.message.Message.{Message}
use Rattle.client_messages.specs.Listeners.{newcomer, listed, listener_of, placed, with_channel, subscribed, at_client, without_channel}
use Rattle.client_messages.specs.Listeners.{unsubscribed, takes, delivered, sent, with_nothing_unread, with_all_read, left}

-- a client is known by its number
pub number_of : (ls : List Listener) (c : ℕ) → (listener_of ls c).client ≡ c
number_of [] c = refl
number_of (l ∷ ls) c = by (l.client == c) refl (number_of ls c)
  where
    by : (e : Bool) → (l.client == c) ≡ e → (listener_of ls c).client ≡ c
        → (unwrap_or (cond e (Some l) (listed ls c)) (newcomer c)).client ≡ c
    by true same rest = eqb-true l.client c same
    by false same rest = rest

module _ (q : Listener → Bool) (d : ℕ) where
  -- a filter that keeps who has the number
  listed_kept : ((l : Listener) → (l.client == d) ≡ true → q l ≡ true) → (ls : List Listener) → listed (filter q ls) d ≡ listed ls d
  listed_kept keeps [] = refl
  listed_kept keeps (l ∷ ls) = by (q l) refl (l.client == d) refl (listed_kept keeps ls)
    where
      by : (b : Bool) → q l ≡ b → (e : Bool) → (l.client == d) ≡ e → listed (filter q ls) d ≡ listed ls d
          → listed (cond b (l ∷ filter q ls) (filter q ls)) d ≡ cond e (Some l) (listed ls d)
      by true kept e same rest = ap (λ x. cond x (Some l) (listed (filter q ls) d)) same ∙ ap (cond e (Some l)) rest
      by false kept false same rest = rest
      by false kept true same rest = absurd (false≢true (sym kept ∙ keeps l same))

  -- and one that doesn't
  listed_lost : ((l : Listener) → (l.client == d) ≡ true → q l ≡ false) → (ls : List Listener) → listed (filter q ls) d ≡ None
  listed_lost loses [] = refl
  listed_lost loses (l ∷ ls) = by (q l) refl (l.client == d) refl (listed_lost loses ls)
    where
      by : (b : Bool) → q l ≡ b → (e : Bool) → (l.client == d) ≡ e → listed (filter q ls) d ≡ None
          → listed (cond b (l ∷ filter q ls) (filter q ls)) d ≡ None
      by false lost e same rest = rest
      by true lost true same rest = absurd (false≢true (sym (loses l same) ∙ lost))
      by true lost false same rest = ap (λ x. cond x (Some l) (listed (filter q ls) d)) same ∙ rest

or_none : (o : Option Listener) → option_or o None ≡ o
or_none None = refl
or_none (Some l) = refl

-- before the place of a number, at it, or behind it
listed_parted : (ls : List Listener) (new : Listener) (n d : ℕ) (e : Bool) → (d == n) ≡ e → (b : Bool) → nat_lt d n ≡ b
    → option_or (listed (filter (λ l. nat_lt l.client n) ls) d)
    (cond (n == d) (Some new) (listed (filter (λ l. nat_lt n l.client) ls) d))
    ≡ cond e (Some new) (listed ls d)
listed_parted ls new n d true same b h =
    let front : listed (filter (λ l. nat_lt l.client n) ls) d ≡ None =
    listed_lost (λ l. nat_lt l.client n) d (λ l here. le-ltb l.client n (omega (arith, eqb-true l.client d here, eqb-true d n same))) ls in
    let hit : (n == d) ≡ true = eq-eqb n d (sym (eqb-true d n same)) in
    ap (λ (o : Option Listener). option_or o (cond (n == d) (Some new) (listed (filter (λ l. nat_lt n l.client) ls) d))) front
    ∙ ap (λ (x : Bool). cond x (Some new) (listed (filter (λ l. nat_lt n l.client) ls) d)) hit
listed_parted ls new n d false other true less =
    let front : listed (filter (λ l. nat_lt l.client n) ls) d ≡ listed ls d =
    listed_kept (λ l. nat_lt l.client n) d (λ l here. lt-ltb l.client n (omega (arith, eqb-true l.client d here, ltb-true d n less))) ls in
    let back : listed (filter (λ l. nat_lt n l.client) ls) d ≡ None =
    listed_lost (λ l. nat_lt n l.client) d (λ l here. le-ltb n l.client (omega (arith, eqb-true l.client d here, ltb-true d n less))) ls in
    let past : (n == d) ≡ false = ne_eqb n d (λ same. eqb-false d n other (sym same)) in
    ap (λ (o : Option Listener). option_or o (cond (n == d) (Some new) (listed (filter (λ l. nat_lt n l.client) ls) d))) front
    ∙ ap (λ (x : Bool). option_or (listed ls d) (cond x (Some new) (listed (filter (λ l. nat_lt n l.client) ls) d))) past
    ∙ ap (option_or (listed ls d)) back ∙ or_none (listed ls d)
listed_parted ls new n d false other false more =
    let above : n ≤ d = ltb-false d n more in
    let apart : (d ≡ n) → ⊥ = eqb-false d n other in
    let front : listed (filter (λ l. nat_lt l.client n) ls) d ≡ None =
    listed_lost (λ l. nat_lt l.client n) d (λ l here. le-ltb l.client n (omega (arith, eqb-true l.client d here, above))) ls in
    let back : listed (filter (λ l. nat_lt n l.client) ls) d ≡ listed ls d =
    listed_kept (λ l. nat_lt n l.client) d (λ l here. lt-ltb n l.client (omega (arith, eqb-true l.client d here, above, apart))) ls in
    let past : (n == d) ≡ false = ne_eqb n d (λ same. apart (sym same)) in
    ap (λ (o : Option Listener). option_or o (cond (n == d) (Some new) (listed (filter (λ l. nat_lt n l.client) ls) d))) front
    ∙ ap (λ (x : Bool). cond x (Some new) (listed (filter (λ l. nat_lt n l.client) ls) d)) past ∙ back

-- a client that is put in its place
placed_for : (ls : List Listener) (new : Listener) (c d : ℕ) → new.client ≡ c
    → listener_of (placed ls new) d ≡ (if d == c then new else listener_of ls d)
placed_for ls new c d number =
    ap (λ (o : Option Listener). unwrap_or o (newcomer d))
    (find-append (λ (l : Listener). l.client == d) (filter (λ l. nat_lt l.client new.client) ls)
    (new ∷ filter (λ l. nat_lt new.client l.client) ls)
    ∙ listed_parted ls new new.client d (d == new.client) refl (nat_lt d new.client) refl)
    ∙ by (d == new.client) ∙ ap (λ (n : ℕ). if d == n then new else listener_of ls d) number
  where
    by : (e : Bool) → unwrap_or (cond e (Some new) (listed ls d)) (newcomer d) ≡ (if e then new else listener_of ls d)
    by true = refl
    by false = refl

pub subscribed_for : (ls : List Listener) (c d : ℕ) (channel : List ℕ)
    → listener_of (subscribed ls c channel) d ≡ (if d == c then with_channel channel (listener_of ls c) else listener_of ls d)
subscribed_for ls c d channel = placed_for ls (with_channel channel (listener_of ls c)) c d (number_of ls c)

-- a change of each client that keeps its number
listed_mapped : (f : Listener → Listener) → ((l : Listener) → (f l).client ≡ l.client) → (ls : List Listener) (d : ℕ)
    → listed (map f ls) d ≡ option_map f (listed ls d)
listed_mapped f same [] d = refl
listed_mapped f same (l ∷ ls) d =
    ap (λ (n : ℕ). cond (n == d) (Some (f l)) (listed (map f ls) d)) (same l) ∙ by (l.client == d) (listed_mapped f same ls d)
  where
    by : (e : Bool) → listed (map f ls) d ≡ option_map f (listed ls d)
        → cond e (Some (f l)) (listed (map f ls) d) ≡ option_map f (cond e (Some l) (listed ls d))
    by true rest = refl
    by false rest = rest

mapped_for : (f : Listener → Listener) → ((l : Listener) → (f l).client ≡ l.client) → (ls : List Listener) (d : ℕ)
    → f (newcomer d) ≡ newcomer d → listener_of (map f ls) d ≡ f (listener_of ls d)
mapped_for f same ls d new =
    ap (λ (o : Option Listener). unwrap_or o (newcomer d)) (listed_mapped f same ls d) ∙ by (listed ls d)
  where
    by : (o : Option Listener) → unwrap_or (option_map f o) (newcomer d) ≡ f (unwrap_or o (newcomer d))
    by None = sym new
    by (Some l) = refl

pub same_picked : (b : Bool) (x y : Listener) → x.client ≡ y.client → (cond b x y).client ≡ y.client
same_picked true x y same = same
same_picked false x y same = refl

pub sent_for : (ls : List Listener) (m : Message) (d : ℕ) → listener_of (sent ls m) d ≡ delivered m (listener_of ls d)
sent_for ls m d =
    mapped_for (delivered m) (λ l. same_picked (takes m l) (record l { unread = l.unread ++ m ∷ [] }) l refl) ls d refl

-- a change of one client
at_client_for : (ls : List Listener) (c d : ℕ) (change : Listener → Listener) → ((l : Listener) → (change l).client ≡ l.client)
    → change (newcomer d) ≡ newcomer d
    → listener_of (map (at_client c change) ls) d ≡ (if d == c then change (listener_of ls d) else listener_of ls d)
at_client_for ls c d change same new =
    mapped_for (at_client c change) (λ l. same_picked (l.client == c) (change l) l (same l)) ls d (by (d == c))
    ∙ ap (λ (n : ℕ). if n == c then change (listener_of ls d) else listener_of ls d) (number_of ls d)
  where
    by : (e : Bool) → cond e (change (newcomer d)) (newcomer d) ≡ newcomer d
    by true = new
    by false = refl

pub unsubscribed_for : (ls : List Listener) (c d : ℕ) (channel : List ℕ)
    → listener_of (unsubscribed ls c channel) d ≡ (if d == c then without_channel channel (listener_of ls d) else listener_of ls d)
unsubscribed_for ls c d channel = at_client_for ls c d (without_channel channel) (λ l. refl) refl

pub read_for : (ls : List Listener) (c d : ℕ)
    → listener_of (with_all_read ls c) d ≡ (if d == c then with_nothing_unread (listener_of ls d) else listener_of ls d)
read_for ls c d = at_client_for ls c d with_nothing_unread (λ l. refl) refl

pub left_for : (ls : List Listener) (c d : ℕ) → listener_of (left ls c) d ≡ (if d == c then newcomer d else listener_of ls d)
left_for ls c d = by (d == c) refl
  where
    by : (e : Bool) → (d == c) ≡ e → listener_of (left ls c) d ≡ (if e then newcomer d else listener_of ls d)
    by true same =
        ap (λ (o : Option Listener). unwrap_or o (newcomer d))
        (listed_lost (λ l. not (l.client == c)) d
        (λ l here. ap not (eq-eqb l.client c (eqb-true l.client d here ∙ eqb-true d c same))) ls)
    by false other =
        ap (λ (o : Option Listener). unwrap_or o (newcomer d))
        (listed_kept (λ l. not (l.client == c)) d
        (λ l here. ap not (ne_eqb l.client c (λ at. eqb-false d c other (sym (eqb-true l.client d here) ∙ at)))) ls)
