-- The clients that have subscribed to a channel since they came, a list by rising number, and what each call makes of it.
use Rattle.std.specs.Prelude.{◌≡◌, ℕ, ◌<◌, ◌≤◌, Bool, ◌==◌, ◌&&◌, not, nat_lt, length, slice_index_or, List, [], ◌∷◌, ◌++◌}
use Rattle.std.specs.Prelude.{Option, Some, None, filter, map, find, unwrap_or, if◌then◌else◌}
use Rattle.std.specs.List.{filter_map, list_any, AllPairs}
use Rattle.client_messages.specs.Channel.{is_among, without}
use Rattle.client_messages.specs.Messages.{has_room}
use Rattle.client_messages.specs.declared.listener.Listener.{Listener}
use Rattle.client_messages.specs.declared.message.Message.{Message}

-- a client without a channel, and with nothing unread
abbrev pub newcomer : ℕ → Listener
newcomer c = record { client = c; channels = []; unread = [] }

-- the number of the client at place i
abbrev pub client_at : List Listener → ℕ → ℕ
client_at ls i = let l = slice_index_or ls i (newcomer 0) in l.client

-- each client's number is below the later ones
abbrev pub IsRising : List Listener → Type 0
IsRising = AllPairs (λ l k. l.client < k.client)

-- each number is below the later ones
abbrev pub AreRising : List ℕ → Type 0
AreRising = AllPairs (λ c d. c < d)

-- the client at place i has the number
pub record IsAt (ls : List Listener) (c i : ℕ) : Type 0 where
  pub in_range : i < length ls
  pub has_number : client_at ls i ≡ c

-- the client would go at place i: smaller numbers before it, and greater ones from it on
pub record IsGapFor (ls : List Listener) (c i : ℕ) : Type 0 where
  pub in_range : i ≤ length ls
  pub smaller_before : (j : ℕ) → j < i → client_at ls j < c
  pub greater_after : (j : ℕ) → i ≤ j → j < length ls → c < client_at ls j

-- the client, if it is listed
abbrev pub listed : List Listener → ℕ → Option Listener
listed ls c = find (λ l. l.client == c) ls

-- what is known of a client: one that isn't listed has no channel and nothing unread
abbrev pub listener_of : List Listener → ℕ → Listener
listener_of ls c = unwrap_or (listed ls c) (newcomer c)

-- some client has the channel
abbrev pub is_heard : List ℕ → List Listener → Bool
is_heard channel ls = list_any (λ l. is_among channel l.channels) ls

-- with this client, in its place by number
abbrev pub placed : List Listener → Listener → List Listener
placed ls new = filter (λ l. nat_lt l.client new.client) ls ++ new ∷ filter (λ l. nat_lt new.client l.client) ls

-- the client has one more channel
abbrev pub with_channel : List ℕ → Listener → Listener
with_channel channel l = record l { channels = l.channels ++ channel ∷ [] }

abbrev pub subscribed : List Listener → ℕ → List ℕ → List Listener
subscribed ls c channel = placed ls (with_channel channel (listener_of ls c))

-- the client with this number is changed so
abbrev pub at_client : ℕ → (Listener → Listener) → Listener → Listener
at_client c change l = if l.client == c then change l else l

-- the client has the channel no more; what it hasn't read stays
abbrev pub without_channel : List ℕ → Listener → Listener
without_channel channel l = record l { channels = without channel l.channels }

abbrev pub unsubscribed : List Listener → ℕ → List ℕ → List Listener
unsubscribed ls c channel = map (at_client c (without_channel channel)) ls

-- the client gets the message: it has the channel, and room
abbrev pub takes : Message → Listener → Bool
takes m l = is_among m.channel l.channels && has_room m l.unread

-- the client with the message behind what else it hasn't read, if it gets it
abbrev pub delivered : Message → Listener → Listener
delivered m l = if takes m l then record l { unread = l.unread ++ m ∷ [] } else l

abbrev pub sent : List Listener → Message → List Listener
sent ls m = map (delivered m) ls

-- the client has nothing unread
abbrev pub has_read_all : Listener → Bool
has_read_all l = length l.unread == 0

-- the client's number, if it gets the message and had read all before
abbrev pub notice_of : Message → Listener → Option ℕ
notice_of m l = if takes m l && (length l.unread == 0) then Some l.client else None

-- the clients for which the message is the first that they haven't read
abbrev pub notified : List Listener → Message → List ℕ
notified ls m = filter_map (notice_of m) ls

-- the client has read all
abbrev pub with_nothing_unread : Listener → Listener
with_nothing_unread l = record l { unread = [] }

abbrev pub with_all_read : List Listener → ℕ → List Listener
with_all_read ls c = map (at_client c with_nothing_unread) ls

-- the others
abbrev pub left : List Listener → ℕ → List Listener
left ls c = filter (λ l. not (l.client == c)) ls
