-- The limits on channels and messages.
use Rattle.std.specs.Prelude.{ℕ}

-- how many bytes the name of a channel may have
abbrev pub MAX_CHANNEL_BYTES : ℕ
MAX_CHANNEL_BYTES = 256

-- how many channels a client may have
abbrev pub MAX_CHANNELS : ℕ
MAX_CHANNELS = 16

-- how many messages a client may have that it hasn't read
abbrev pub MAX_UNREAD : ℕ
MAX_UNREAD = 64

-- how many bytes they may have together, with the names of their channels
abbrev pub MAX_UNREAD_BYTES : ℕ
MAX_UNREAD_BYTES = 65536
