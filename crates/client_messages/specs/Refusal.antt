-- The refusals: their numbers, which one a call answers, and what each call is refused for.
use Rattle.std.specs.Prelude.{◌≡◌, ℕ, not, nat_le, List, length, Option, Some, None, Result, Err, IsOk, IsOkUnless, if◌then◌else◌}
use Rattle.std.specs.List.{list_any}
use Rattle.client_messages.specs.Channel.{is_channel_name, is_among}
use Rattle.client_messages.specs.Limits.{MAX_CHANNELS}
use Rattle.client_messages.specs.Listeners.{listener_of, is_heard, takes}
use Rattle.client_messages.specs.declared.listener.Listener.{Listener}
use Rattle.client_messages.specs.declared.message.Message.{Message}
use Rattle.client_messages.specs.declared.refusal.MessagesError.{MessagesError}
use Rattle.client_messages.specs.declared.refusal.MessagesError.TheVariants.{BadChannelName, TooManyChannels, AlreadySubscribed}
use Rattle.client_messages.specs.declared.refusal.MessagesError.TheVariants.{NotSubscribed, NobodySubscribed, NobodyHasRoom, NoMemory}

abbrev pub number_of : MessagesError → ℕ
number_of BadChannelName = 100
number_of TooManyChannels = 101
number_of AlreadySubscribed = 102
number_of NotSubscribed = 103
number_of NobodySubscribed = 104
number_of NobodyHasRoom = 105
number_of NoMemory = 7

-- a call is refused by this, or else it succeeds
abbrev pub Answers : {T E : Type 0} → Option E → Result T E → Type 0
Answers None r = IsOk r
Answers (Some e) r = r ≡ Err e

-- a call is refused by this, or else by want of memory alone
abbrev pub AnswersIfMemory : {T : Type 0} → Option MessagesError → Result T MessagesError → Type 0
AnswersIfMemory None r = IsOkUnless r NoMemory
AnswersIfMemory (Some e) r = r ≡ Err e

-- one more channel: the name, then the number of channels, then whether it is there
abbrev pub add_refusal : List (List ℕ) → List ℕ → Option MessagesError
add_refusal channels channel =
    if not (is_channel_name channel) then Some BadChannelName
    else if nat_le MAX_CHANNELS (length channels) then Some TooManyChannels
    else if is_among channel channels then Some AlreadySubscribed
    else None

abbrev pub subscribe_refusal : List Listener → ℕ → List ℕ → Option MessagesError
subscribe_refusal ls c channel = let l = listener_of ls c in add_refusal l.channels channel

-- the channel isn't there, whatever its name
abbrev pub remove_refusal : List (List ℕ) → List ℕ → Option MessagesError
remove_refusal channels channel = if is_among channel channels then None else Some NotSubscribed

abbrev pub unsubscribe_refusal : List Listener → ℕ → List ℕ → Option MessagesError
unsubscribe_refusal ls c channel = let l = listener_of ls c in remove_refusal l.channels channel

-- no message can have the channel
abbrev pub draft_refusal : List ℕ → Option MessagesError
draft_refusal channel = if is_channel_name channel then None else Some BadChannelName

-- nobody has the channel, or nobody who has it has room
abbrev pub takers_refusal : List Listener → Message → Option MessagesError
takers_refusal ls m =
    if not (is_heard m.channel ls) then Some NobodySubscribed
    else if not (list_any (takes m) ls) then Some NobodyHasRoom
    else None

abbrev pub send_refusal : List Listener → Message → Option MessagesError
send_refusal ls m = if not (is_channel_name m.channel) then Some BadChannelName else takers_refusal ls m
