-- Each call leaves the clients in order, and each within the limits.
use Rattle.std.proofs.Common.{◌≡◌, ℕ, suc, ◌+◌, ◌<◌, ◌≤◌, Bool, true, false, not, cond, ◌&&◌, ◌||◌, ◌==◌, nat_lt, nat_le, if◌then◌else◌}
use Rattle.std.proofs.Common.{IsTrue, IsFalse}
use Rattle.std.proofs.Common.{List, [], ◌∷◌, ◌++◌, length, filter, map, All, Some, None, unwrap_or, refl}
use Rattle.std.proofs.Common.{ltb-true, leb-true, leb-false, arith}
use Rattle.std.specs.List.{list_any}
use Rattle.std.specs.Str.{bytes_eq}
use Rattle.std.proofs.lemmas.List.{length_push}
use Rattle.std.proofs.lemmas.List.Elements.{All-nil, All-cons, All-head, All-tail, All-append, All-push, All-weaker, All-map, All-filter}
use Rattle.std.proofs.lemmas.List.Kept.{AllPairs-cons, AllPairs-filter}
use Rattle.std.proofs.lemmas.List.Quantifiers.{all_pairs_push}
use Rattle.std.proofs.lemmas.List.Sums.{sum_by_push}
use Rattle.client_messages.specs.declared.listener.Listener.{Listener}
use Rattle.client_messages.specs.declared.message.Message.{Message}
use Rattle.client_messages.specs.declared.refusal.MessagesError.TheVariants.{BadChannelName, TooManyChannels, AlreadySubscribed}
use Rattle.client_messages.specs.Channel.{is_channel_name, is_among}
use Rattle.client_messages.specs.Limited.{IsLimited, AreLimited}
use Rattle.client_messages.specs.Limits.{MAX_CHANNELS, MAX_UNREAD, MAX_UNREAD_BYTES}
use Rattle.client_messages.specs.Listeners.{newcomer, IsRising, listed, listener_of, placed, with_channel, subscribed, at_client}
use Rattle.client_messages.specs.Listeners.{without_channel, unsubscribed, takes, delivered, sent, with_nothing_unread, with_all_read, left}
use Rattle.client_messages.specs.Messages.{bytes_of, total_bytes, has_room, IsWithinLimits}
use Rattle.client_messages.specs.Refusal.{add_refusal, subscribe_refusal}
use Rattle.client_messages.proofs.ForItself.{same_picked}
use Rattle.client_messages.proofs.Rising.{rising_map, rising_left, rising_sent}

both : (a b : Bool) → (a && b) ≡ true → (a ≡ true) × (b ≡ true)
both true true e = (refl, refl)
both true false e = absurd (cc)
both false b e = absurd (cc)

module _ {X : Type 0} (p : X → Bool) where
  filter_short : (xs : List X) → length (filter p xs) ≤ length xs
  filter_short [] = omega arith
  filter_short (x ∷ xs) = by (p x) (filter_short xs)
    where
      by : (b : Bool) → length (filter p xs) ≤ length xs → length (cond b (x ∷ filter p xs) (filter p xs)) ≤ suc (length xs)
      by true rest = omega arith
      by false rest = omega arith

  filter_passes : (xs : List X) → All (λ x. p x ≡ true) (filter p xs)
  filter_passes [] = All-nil (λ (x : X). p x ≡ true)
  filter_passes (x ∷ xs) = by (p x) refl (filter_passes xs)
    where
      by : (b : Bool) → p x ≡ b → All (λ x. p x ≡ true) (filter p xs) → All (λ x. p x ≡ true) (cond b (x ∷ filter p xs) (filter p xs))
      by true here rest = All-cons (λ (x : X). p x ≡ true) x (filter p xs) here rest
      by false here rest = rest

  none_is : (xs : List X) → list_any p xs ≡ false → All (λ x. p x ≡ false) xs
  none_is [] none = All-nil (λ (x : X). p x ≡ false)
  none_is (x ∷ xs) none = by (p x) refl none (λ rest. none_is xs rest)
    where
      by : (b : Bool) → p x ≡ b → (b || list_any p xs) ≡ false → (list_any p xs ≡ false → All (λ x. p x ≡ false) xs)
          → All (λ x. p x ≡ false) (x ∷ xs)
      by true here none more = absurd (cc)
      by false here none more = All-cons (λ (x : X). p x ≡ false) x xs here (more none)

-- a client alone
newcomer_limited : (c : ℕ) → IsLimited (newcomer c)
newcomer_limited c = record {
  few = omega arith;
  named = All-nil (λ (name : List ℕ). IsTrue (is_channel_name name));
  distinct = λ i j d lt in_range. absurd (omega arith);
  unread = record { few = omega arith; short = omega arith };
}

picked_limited : (b : Bool) (x y : Listener) → IsLimited x → IsLimited y → IsLimited (cond b x y)
picked_limited true x y one other = one
picked_limited false x y one other = other

listener_limited : (ls : List Listener) (c : ℕ) → All IsLimited ls → IsLimited (listener_of ls c)
listener_limited [] c each = newcomer_limited c
listener_limited (l ∷ ls) c each =
    by (l.client == c) (All-head IsLimited l ls each) (listener_limited ls c (All-tail IsLimited l ls each))
  where
    by : (e : Bool) → IsLimited l → IsLimited (listener_of ls c) → IsLimited (unwrap_or (cond e (Some l) (listed ls c)) (newcomer c))
    by true here rest = here
    by false here rest = rest

allowed : (named full known : Bool)
    → (if not named then Some BadChannelName else if full then Some TooManyChannels else if known then Some AlreadySubscribed else None)
    ≡ None
    → (named ≡ true) × (full ≡ false) × (known ≡ false)
allowed false full known e = absurd (cc)
allowed true true known e = absurd (cc)
allowed true false true e = absurd (cc)
allowed true false false e = (refl, refl, refl)

with_channel_limited : (channel : List ℕ) (l : Listener) → add_refusal l.channels channel ≡ None → IsLimited l
    → IsLimited (with_channel channel l)
with_channel_limited channel l free is =
    let may = allowed (is_channel_name channel) (nat_le MAX_CHANNELS (length l.channels)) (is_among channel l.channels) free in
    let room : length l.channels < MAX_CHANNELS = leb-false MAX_CHANNELS (length l.channels) may.1 in
    record {
      few = omega (arith, length_push l.channels channel, room);
      named = All-push (λ (name : List ℕ). IsTrue (is_channel_name name)) l.channels channel is.named may.0;
      distinct = all_pairs_push (λ (one other : List ℕ). IsFalse (bytes_eq one other)) l.channels channel is.distinct
          (none_is (λ (name : List ℕ). bytes_eq name channel) l.channels may.2);
      unread = is.unread;
    }

without_channel_limited : (channel : List ℕ) (l : Listener) → IsLimited l → IsLimited (without_channel channel l)
without_channel_limited channel l is =
    let others = λ (name : List ℕ). not (bytes_eq name channel) in
    record {
      few = omega (arith, filter_short others l.channels, is.few);
      named = All-filter others (λ (name : List ℕ). IsTrue (is_channel_name name)) l.channels is.named;
      distinct = AllPairs-filter (λ (one other : List ℕ). IsFalse (bytes_eq one other)) others l.channels is.distinct;
      unread = is.unread;
    }

one_more_unread : (m : Message) (unread : List Message) → has_room m unread ≡ true → IsWithinLimits (unread ++ m ∷ [])
one_more_unread m unread room =
    let may = both (nat_lt (length unread) MAX_UNREAD) (nat_le (total_bytes unread + bytes_of m) MAX_UNREAD_BYTES) room in
    let few : length unread < MAX_UNREAD = ltb-true (length unread) MAX_UNREAD may.0 in
    let short : total_bytes unread + bytes_of m ≤ MAX_UNREAD_BYTES = leb-true (total_bytes unread + bytes_of m) MAX_UNREAD_BYTES may.1 in
    record {
      few = omega (arith, length_push unread m, few);
      short = omega (arith, sum_by_push bytes_of unread m, short);
    }

delivered_limited : (m : Message) (l : Listener) → IsLimited l → IsLimited (delivered m l)
delivered_limited m l is = by (takes m l) refl
  where
    by : (b : Bool) → takes m l ≡ b → IsLimited (cond b (record l { unread = l.unread ++ m ∷ [] }) l)
    by false gets = is
    by true gets =
        let may = both (is_among m.channel l.channels) (has_room m l.unread) gets in
        record { few = is.few; named = is.named; distinct = is.distinct; unread = one_more_unread m l.unread may.1 }

read_one_limited : (l : Listener) → IsLimited l → IsLimited (with_nothing_unread l)
read_one_limited l is =
    record { few = is.few; named = is.named; distinct = is.distinct; unread = record { few = omega arith; short = omega arith } }

-- all of them
rising_joined : (ls ks : List Listener) → IsRising ls → IsRising ks → All (λ l. All (λ k. l.client < k.client) ks) ls → IsRising (ls ++ ks)
rising_joined [] ks before behind across = behind
rising_joined (l ∷ ls) ks before behind across =
    let above = λ (k : Listener). l.client < k.client in
    AllPairs-cons (λ (l k : Listener). l.client < k.client) l (ls ++ ks)
    (All-append above ls ks (λ k d lt. before 0 (suc k) d (omega arith) (omega arith))
    (All-head (λ (l : Listener). All (λ (k : Listener). l.client < k.client) ks) l ls across))
    (rising_joined ls ks (λ i j d lt in_range. before (suc i) (suc j) d (omega arith) (omega arith)) behind
    (All-tail (λ (l : Listener). All (λ (k : Listener). l.client < k.client) ks) l ls across))

rising_placed : (ls : List Listener) (new : Listener) → IsRising ls → IsRising (placed ls new)
rising_placed ls new rising =
    let n = new.client in
    let less = λ (l k : Listener). l.client < k.client in
    let front = filter (λ (l : Listener). nat_lt l.client n) ls in
    let back = filter (λ (l : Listener). nat_lt n l.client) ls in
    let below : All (λ (l : Listener). l.client < n) front =
    All-weaker (λ (l : Listener). nat_lt l.client n ≡ true) (λ (l : Listener). l.client < n) (λ l h. ltb-true l.client n h) front
    (filter_passes (λ (l : Listener). nat_lt l.client n) ls) in
    let above : All (λ (l : Listener). n < l.client) back =
    All-weaker (λ (l : Listener). nat_lt n l.client ≡ true) (λ (l : Listener). n < l.client) (λ l h. ltb-true n l.client h) back
    (filter_passes (λ (l : Listener). nat_lt n l.client) ls) in
    rising_joined front (new ∷ back) (AllPairs-filter less (λ (l : Listener). nat_lt l.client n) ls rising)
    (AllPairs-cons less new back above (AllPairs-filter less (λ (l : Listener). nat_lt n l.client) ls rising))
    (All-weaker (λ (l : Listener). l.client < n) (λ (l : Listener). All (λ (k : Listener). l.client < k.client) (new ∷ back))
    (λ l h. All-cons (λ (k : Listener). l.client < k.client) new back h
    (All-weaker (λ (k : Listener). n < k.client) (λ (k : Listener). l.client < k.client) (λ k g. omega (arith, h, g)) back above))
    front below)

changed_limited : (c : ℕ) (change : Listener → Listener) → ((l : Listener) → (change l).client ≡ l.client)
    → ((l : Listener) → IsLimited l → IsLimited (change l)) → (ls : List Listener) → AreLimited ls
    → AreLimited (map (at_client c change) ls)
changed_limited c change same keeps ls are = record {
  rising = rising_map (at_client c change) (λ l. same_picked (l.client == c) (change l) l (same l)) ls are.rising;
  each = All-map IsLimited (at_client c change) ls
      (All-weaker IsLimited (λ (l : Listener). IsLimited (at_client c change l))
      (λ l is. picked_limited (l.client == c) (change l) l (keeps l is) is) ls are.each);
}

pub none_limited : AreLimited []
none_limited = record { rising = λ i j d lt in_range. absurd (omega arith); each = All-nil IsLimited }

pub subscribed_limited : (ls : List Listener) (c : ℕ) (channel : List ℕ) → subscribe_refusal ls c channel ≡ None → AreLimited ls
    → AreLimited (subscribed ls c channel)
subscribed_limited ls c channel free are =
    let new : Listener = with_channel channel (listener_of ls c) in
    let is : IsLimited new = with_channel_limited channel (listener_of ls c) free (listener_limited ls c are.each) in
    record {
      rising = rising_placed ls new are.rising;
      each = All-append IsLimited (filter (λ (l : Listener). nat_lt l.client new.client) ls)
          (new ∷ filter (λ (l : Listener). nat_lt new.client l.client) ls)
          (All-filter (λ (l : Listener). nat_lt l.client new.client) IsLimited ls are.each)
          (All-cons IsLimited new (filter (λ (l : Listener). nat_lt new.client l.client) ls) is
          (All-filter (λ (l : Listener). nat_lt new.client l.client) IsLimited ls are.each));
    }

pub unsubscribed_limited : (ls : List Listener) (c : ℕ) (channel : List ℕ) → AreLimited ls → AreLimited (unsubscribed ls c channel)
unsubscribed_limited ls c channel are =
    changed_limited c (without_channel channel) (λ l. refl) (without_channel_limited channel) ls are

pub sent_limited : (ls : List Listener) (m : Message) → AreLimited ls → AreLimited (sent ls m)
sent_limited ls m are = record {
  rising = rising_sent ls m are.rising;
  each = All-map IsLimited (delivered m) ls
      (All-weaker IsLimited (λ (l : Listener). IsLimited (delivered m l)) (delivered_limited m) ls are.each);
}

pub read_limited : (ls : List Listener) (c : ℕ) → AreLimited ls → AreLimited (with_all_read ls c)
read_limited ls c are = changed_limited c with_nothing_unread (λ l. refl) read_one_limited ls are

pub left_limited : (ls : List Listener) (c : ℕ) → AreLimited ls → AreLimited (left ls c)
left_limited ls c are = record {
  rising = rising_left ls c are.rising;
  each = All-filter (λ (l : Listener). not (l.client == c)) IsLimited ls are.each;
}
