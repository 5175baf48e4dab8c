-- The limit on what one request may change.
use Rattle.std.specs.Prelude.{ℕ, ◌+◌, length, nat_le, Ok, Err, if◌then◌else◌}
use Rattle.command_text.specs.declared.refusal.CommandRefusal.TheVariants.{RequestTooLarge}
use Rattle.profile.specs.declared.profile.Profile.{Profile}
use Rattle.profile.specs.declared.profile.Profile.TheVariants.{Named, Wide}
use Rattle.state_codec.specs.Spelling.{ops_bytes}
use Rattle.machine_core.specs.Meaning.{Meant}

-- as many bytes a record of the journal holds: the ops of one request, and under the wide profile their sum behind them
abbrev pub max_request_bytes : ℕ
max_request_bytes = 2097152

-- what a command does, where the record of the request's commands before it takes so many bytes
abbrev pub within : Profile → ℕ → Meant → Meant
within profile size (Err refusal) = Err refusal
within profile size (Ok x) = if nat_le (size + length (ops_bytes profile x.ops)) max_request_bytes then Ok x else Err RequestTooLarge

-- how many bytes are taken at most by what is kept of the player behind one command
abbrev pub longest_place : ℕ
longest_place = 24

-- and how many by it and by the time of the playlists that the command changed
abbrev pub longest_keep : ℕ
longest_keep = longest_place + 9

-- and by the time alone
abbrev pub time_room : Profile → ℕ
time_room Named = 0
time_room Wide = 9

-- so many bytes are kept free for both
abbrev pub room_by : Profile → ℕ
room_by Named = 0
room_by Wide = longest_keep

-- Under the wide profile room to keep the player's place, and the playlists' time, is taken before a command: without it none is performed.
abbrev pub within_room : Profile → ℕ → Meant → Meant
within_room Named size meant = within Named size meant
within_room Wide size meant =
    if nat_le (size + longest_keep) max_request_bytes then within Wide (size + longest_keep) meant else Err RequestTooLarge
