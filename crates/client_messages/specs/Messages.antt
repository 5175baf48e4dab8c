-- Messages, and how many of them a client may have.
use Rattle.std.specs.Prelude.{◌≡◌, ℕ, ◌+◌, ◌≤◌, Bool, ◌&&◌, nat_lt, nat_le, List, length}
use Rattle.std.specs.List.{sum_by}
use Rattle.client_messages.specs.Limits.{MAX_UNREAD, MAX_UNREAD_BYTES}
use Rattle.client_messages.specs.declared.message.Message.{Message}

-- a text on a channel
abbrev pub message : List ℕ → List ℕ → Message
message channel text = record { channel = channel; text = text }

-- its bytes, with those of the name
abbrev pub bytes_of : Message → ℕ
bytes_of m = length m.channel + length m.text

-- the bytes of all of them
abbrev pub total_bytes : List Message → ℕ
total_bytes unread = sum_by bytes_of unread

-- one more message may stand behind these
abbrev pub has_room : Message → List Message → Bool
has_room m unread = nat_lt (length unread) MAX_UNREAD && nat_le (total_bytes unread + bytes_of m) MAX_UNREAD_BYTES

-- as many as a client may have at most
pub record IsWithinLimits (unread : List Message) : Type 0 where
  pub few : length unread ≤ MAX_UNREAD
  pub short : total_bytes unread ≤ MAX_UNREAD_BYTES

-- with their bytes, and memory for as many as there may be
pub record AreCounted (unread : List Message) (bytes places : ℕ) : Type 0 where
  pub counted : bytes ≡ total_bytes unread
  pub within : IsWithinLimits unread
  pub room : MAX_UNREAD ≤ places
