-- What each call makes of the clients, at the place where the search ended.
use Rattle.std.proofs.Common.{◌≡◌, ℕ, List, [], ◌∷◌, ◌++◌, slice_index_or, slice_set, Option, Some, None}
use Rattle.std.proofs.Common.{Ok, Err, Bool, false, not, cond, refl, sym, ap, ◌∙◌}
use Rattle.std.specs.List.{insert}
use Rattle.client_messages.specs.declared.listener.Listener.{Listener}
use Rattle.client_messages.specs.declared.message.Message.{Message}
use Rattle.client_messages.specs.declared.refusal.MessagesError.{MessagesError}
use Rattle.client_messages.specs.declared.refusal.MessagesError.TheVariants.{NoMemory}
use Rattle.client_messages.specs.Channel.{without}
use Rattle.client_messages.specs.Listeners.{newcomer, IsRising, IsAt, IsGapFor, listener_of, placed, with_channel, without_channel, subscribed}
use Rattle.client_messages.specs.Listeners.{unsubscribed, with_nothing_unread, with_all_read}
use Rattle.client_messages.specs.Refusal.{AnswersIfMemory, add_refusal, remove_refusal, subscribe_refusal, unsubscribe_refusal}
use Rattle.std.proofs.lemmas.List.{get_or_default}
use Rattle.client_messages.proofs.Rising.{listener_at, changed_at, placed_at, listener_gap, changed_gap, placed_gap, rising_insert}

-- at a client that is listed
module _ (ls : List Listener) (rising : IsRising ls) (c i : ℕ) (is_at : IsAt ls c i) (item : Listener) (is : item ≡ slice_index_or ls i item) where
  listed_item : listener_of ls c ≡ item
  listed_item = listener_at ls rising c i is_at item ∙ sym is

  number_of_item : item.client ≡ c
  number_of_item = ap (λ (l : Listener). l.client) (is ∙ get_or_default ls i item (newcomer 0) is_at.in_range) ∙ is_at.has_number

  pub subscribed_from : (channels : List (List ℕ)) (channel : List ℕ) → channels ≡ item.channels ++ channel ∷ []
      → slice_set ls i (record item { channels = channels }) ≡ subscribed ls c channel
  subscribed_from channels channel added =
      ap (λ (cs : List (List ℕ)). slice_set ls i (record item { channels = cs })) added
      ∙ sym (placed_at ls rising c i is_at (with_channel channel item) number_of_item)
      ∙ ap (λ l. placed ls (with_channel channel l)) (sym listed_item)

  pub unsubscribed_from : (channels : List (List ℕ)) (channel : List ℕ) → channels ≡ without channel item.channels
      → slice_set ls i (record item { channels = channels }) ≡ unsubscribed ls c channel
  unsubscribed_from channels channel removed =
      ap (λ (cs : List (List ℕ)). slice_set ls i (record item { channels = cs })) removed
      ∙ ap (λ l. slice_set ls i (without_channel channel l)) is
      ∙ sym (changed_at ls rising c i is_at item (without_channel channel))

  pub read_from : (unread : List Message) → unread ≡ [] → slice_set ls i (record item { unread = unread }) ≡ with_all_read ls c
  read_from unread none =
      ap (λ (us : List Message). slice_set ls i (record item { unread = us })) none
      ∙ ap (λ l. slice_set ls i (with_nothing_unread l)) is
      ∙ sym (changed_at ls rising c i is_at item with_nothing_unread)

  pub subscribe_refusal_from : (channel : List ℕ) → add_refusal item.channels channel ≡ subscribe_refusal ls c channel
  subscribe_refusal_from channel = ap (λ (l : Listener). add_refusal l.channels channel) (sym listed_item)

  pub unsubscribe_refusal_from : (channel : List ℕ) → remove_refusal item.channels channel ≡ unsubscribe_refusal ls c channel
  unsubscribe_refusal_from channel = ap (λ (l : Listener). remove_refusal l.channels channel) (sym listed_item)

  pub unread_from : item.unread ≡ (let l = listener_of ls c in l.unread)
  unread_from = ap (λ (l : Listener). l.unread) (sym listed_item)

-- at the gap for a client
module _ (ls : List Listener) (c i : ℕ) (gap : IsGapFor ls c i) where
  pub subscribed_gap : (channel : List ℕ) → insert ls i (with_channel channel (newcomer c)) ≡ subscribed ls c channel
  subscribed_gap channel =
      sym (ap (λ l. placed ls (with_channel channel l)) (listener_gap ls c i gap) ∙ placed_gap ls c i gap (with_channel channel (newcomer c)) refl)

  pub rising_subscribed : (channel : List ℕ) → IsRising ls → IsRising (insert ls i (with_channel channel (newcomer c)))
  rising_subscribed channel = rising_insert ls c i gap (with_channel channel (newcomer c)) refl

  pub subscribe_refusal_gap : (channel : List ℕ) → add_refusal [] channel ≡ subscribe_refusal ls c channel
  subscribe_refusal_gap channel = ap (λ (l : Listener). add_refusal l.channels channel) (sym (listener_gap ls c i gap))

  pub unsubscribe_refusal_gap : (channel : List ℕ) → remove_refusal [] channel ≡ unsubscribe_refusal ls c channel
  unsubscribe_refusal_gap channel = ap (λ (l : Listener). remove_refusal l.channels channel) (sym (listener_gap ls c i gap))

  pub read_gap : ls ≡ with_all_read ls c
  read_gap = sym (changed_gap ls c i gap with_nothing_unread)

  pub unread_gap : [] ≡ (let l = listener_of ls c in l.unread)
  unread_gap = ap (λ (l : Listener). l.unread) (sym (listener_gap ls c i gap))

-- a call that succeeded wasn't to be refused
pub not_refused : {T : Type 0} (o : Option MessagesError) (x : T) → AnswersIfMemory o (Ok x) → o ≡ None
not_refused None x answer = refl
not_refused (Some e) x answer = absurd (cc)

-- so is a call of another type, for the same reason
pub same_refusal : (T U : Type 0) (o : Option MessagesError) (e : MessagesError) → AnswersIfMemory {T = T} o (Err e)
    → AnswersIfMemory {T = U} o (Err e)
same_refusal T U None e answer = answer
same_refusal T U (Some f) e answer = let same : e ≡ f = cc in ap (λ x. Err x) same

-- a call that isn't to be refused may find no memory, or succeed
pub memory_answer : (T : Type 0) (o : Option MessagesError) → o ≡ None → AnswersIfMemory {T = T} o (Err NoMemory)
memory_answer T None is = refl
memory_answer T (Some e) is = absurd (cc)

pub ok_answer : {T : Type 0} (o : Option MessagesError) (x : T) → o ≡ None → AnswersIfMemory o (Ok x)
ok_answer None x is = tt
ok_answer (Some e) x is = absurd (cc)

-- what an insert leaves that didn't fail
pub inserted : (ls all : List Listener) (i : ℕ) (l new : Listener) (ok failed : Bool) → all ≡ cond ok (insert ls i l) ls → ok ≡ not failed
    → failed ≡ false → l ≡ new → all ≡ insert ls i new
inserted ls all i l new ok failed made negation went is =
    made ∙ ap (λ b. cond b (insert ls i l) ls) (negation ∙ ap not went) ∙ ap (insert ls i) is
