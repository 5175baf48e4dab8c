-- What a configuration says: a TOML table of texts, two switches, a number and a list of formats.
use Rattle.std.specs.Prelude.{◌≡◌, ◌⊎◌, is_none, ℕ, List, [], ◌∷◌, codes, Bool, true, false, ◌&&◌, ◌||◌, not, Option, Some, None}
use Rattle.std.specs.Prelude.{option_map, is_some, if◌then◌else◌, ◌+◌, ◌==◌, nat_le, suc, ℤ, pos, negsuc}
use Rattle.std.specs.Option.{option_and_then}
use Rattle.std.specs.Result.{result_ok}
use Rattle.std.specs.Str.{bytes_eq}
use Rattle.toml.specs.Data.{Data, string, Items, no_items, item, Members, no_members, member, get_member, as_array, as_str, as_bool}
use Rattle.toml.specs.Data.{as_integer}
use Rattle.toml.specs.Parse.{parse_document}
use Rattle.hex.specs.Hex.{decode_sized}
use Rattle.as_wave.specs.declared.forms.Forms.{Forms}
use Rattle.mpd_program.specs.declared.config_key.ConfigKey.{ConfigKey}
use Rattle.mpd_program.specs.declared.config_key.ConfigKey.TheVariants as keys
use Rattle.profile.specs.declared.profile.Profile.{Profile}
use Rattle.profile.specs.declared.profile.Profile.TheVariants.{Named, Wide}
use Rattle.song_output.specs.declared.output.Form.{Form}
use Rattle.song_output.specs.declared.output.Form.TheVariants.{Bare, Wave}

-- the first value, and then what the next makes of it, unless there is none
infixl 10 ◌>>=◌
abbrev pub ◌>>=◌ : {A B : Type 0} → Option A → (A → Option B) → Option B
(Some x) >>= f = f x
None >>= f = None

-- The paths as they stand, the key of 32 bytes, where to listen and to play, where these are said, the form of the sound, which files are
-- songs, what reads others, whether the clients of MPD are served, how the player goes on at the beginning of a life, every how many
-- seconds its place is kept, and whether the log says more.
pub record Settings : Type 0 where
  pub music : List ℕ
  pub journal_a : List ℕ
  pub journal_b : List ℕ
  pub key : List ℕ
  pub tcp : Option (List ℕ)
  pub unix : Option (List ℕ)
  pub output : Option (List ℕ)
  pub form : Form
  pub formats : Forms
  pub decoder : Option (List ℕ)
  pub stock_clients : Bool
  pub resume : Option Bool
  pub place_every : ℕ
  pub debug : Bool

-- what the daemon knows of MPD, by the switch `stock_clients`
abbrev pub profile_by : Bool → Profile
profile_by stock_clients = if stock_clients then Wide else Named

-- a key that a configuration may have
abbrev pub is_known : List ℕ → Bool
is_known key =
    bytes_eq key (codes "music") || bytes_eq key (codes "journal_a") || bytes_eq key (codes "journal_b") || bytes_eq key (codes "key")
    || bytes_eq key (codes "tcp") || bytes_eq key (codes "unix") || bytes_eq key (codes "output")
    || bytes_eq key (codes "form") || bytes_eq key (codes "formats") || bytes_eq key (codes "decoder")
    || bytes_eq key (codes "stock_clients") || bytes_eq key (codes "resume") || bytes_eq key (codes "place_every")
    || bytes_eq key (codes "debug")

-- it has no key but these
abbrev pub all_known : Members → Bool
all_known no_members = true
all_known (member key value members) = is_known key && all_known members

-- the text at a key
abbrev pub text_at : List ℕ → Members → Option (List ℕ)
text_at key members = option_and_then as_str (get_member key members)

-- the text at a key that may be missing
abbrev pub text_if_there : Option Data → Option (Option (List ℕ))
text_if_there None = Some None
text_if_there (Some value) = option_map Some (as_str value)

abbrev pub optional_text_at : List ℕ → Members → Option (Option (List ℕ))
optional_text_at key members = text_if_there (get_member key members)

-- the path at a key that may be missing; none is empty
abbrev pub if_no_empty_path : Option (List ℕ) → Option (Option (List ℕ))
if_no_empty_path None = Some None
if_no_empty_path (Some []) = None
if_no_empty_path (Some (byte ∷ bytes)) = Some (Some (byte ∷ bytes))

abbrev pub optional_path_at : List ℕ → Members → Option (Option (List ℕ))
optional_path_at key members = option_and_then if_no_empty_path (optional_text_at key members)

-- the form that a text names
abbrev pub form_of : List ℕ → Option Form
form_of text =
    if bytes_eq text (codes "bare") then Some Bare
    else if bytes_eq text (codes "wave") then Some Wave
    else None

-- the form of the text that may be there: bare where there is none
abbrev pub form_if_there : Option Data → Option Form
form_if_there None = Some Bare
form_if_there (Some value) = option_and_then form_of (as_str value)

abbrev pub form_at : List ℕ → Members → Option Form
form_at key members = form_if_there (get_member key members)

-- a value is this text
abbrev pub is_text : List ℕ → Data → Bool
is_text name (string text) = bytes_eq text name
is_text name _ = false

-- how often a list has this text
abbrev pub count_of : List ℕ → Items → ℕ
count_of name no_items = 0
count_of name (item value values) = if is_text name value then 1 + count_of name values else count_of name values

-- how many values a list has
abbrev pub value_count : Items → ℕ
value_count no_items = 0
value_count (item value values) = suc (value_count values)

-- Each value is one of three names, none comes twice, and `wave` is there: WAVE files of 16-bit PCM are songs in any case.
abbrev pub are_formats : Items → Bool
are_formats values =
    (count_of (codes "wave") values == 1)
    && nat_le (count_of (codes "wave-pcm") values) 1
    && nat_le (count_of (codes "flac") values) 1
    && (value_count values == 1 + count_of (codes "wave-pcm") values + count_of (codes "flac") values)

-- which other files a list of formats takes
abbrev pub formats_in : Items → Option Forms
formats_in values =
    if are_formats values then
    Some (record { wave_pcm = count_of (codes "wave-pcm") values == 1; flac = count_of (codes "flac") values == 1 })
    else None

-- the formats that may be there: no other files where there are none
abbrev pub formats_if_there : Option Data → Option Forms
formats_if_there None = Some (record { wave_pcm = false; flac = false })
formats_if_there (Some value) = option_and_then formats_in (as_array value)

abbrev pub formats_at : List ℕ → Members → Option Forms
formats_at key members = formats_if_there (get_member key members)

-- the switch that may be there: off where there is none
abbrev pub switch_if_there : Option Data → Option Bool
switch_if_there None = Some false
switch_if_there (Some value) = as_bool value

abbrev pub switch_at : List ℕ → Members → Option Bool
switch_at key members = switch_if_there (get_member key members)

-- whether a song that played plays on
abbrev pub resume_of : List ℕ → Option Bool
resume_of text =
    if bytes_eq text (codes "paused") then Some false
    else if bytes_eq text (codes "playing") then Some true
    else None

-- how the player goes on, which may be there: not at all where it is not
abbrev pub resume_if_there : Option Data → Option (Option Bool)
resume_if_there None = Some None
resume_if_there (Some value) = option_map Some (option_and_then resume_of (as_str value))

abbrev pub resume_at : List ℕ → Members → Option (Option Bool)
resume_at key members = resume_if_there (get_member key members)

-- a number of seconds, up to an hour
abbrev pub seconds_of : ℤ → Option ℕ
seconds_of (pos n) = if nat_le n 3600 then Some n else None
seconds_of (negsuc n) = None

-- the seconds that may be there: 30 where they are not
abbrev pub seconds_if_there : Option Data → Option ℕ
seconds_if_there None = Some 30
seconds_if_there (Some value) = option_and_then seconds_of (as_integer value)

abbrev pub seconds_at : List ℕ → Members → Option ℕ
seconds_at key members = seconds_if_there (get_member key members)

-- the bytes that 64 hexadecimal digits stand for, in either case
abbrev pub key_of : List ℕ → Option (List ℕ)
key_of text = result_ok (decode_sized text 32)

abbrev pub key_at : List ℕ → Members → Option (List ℕ)
key_at key members = option_and_then key_of (text_at key members)

-- a key as it stands in the text
abbrev pub name_of : ConfigKey → List ℕ
name_of keys.Music = codes "music"
name_of keys.JournalA = codes "journal_a"
name_of keys.JournalB = codes "journal_b"
name_of keys.Key = codes "key"
name_of keys.Tcp = codes "tcp"
name_of keys.Unix = codes "unix"
name_of keys.Output = codes "output"
name_of keys.Form = codes "form"
name_of keys.Formats = codes "formats"
name_of keys.Decoder = codes "decoder"
name_of keys.StockClients = codes "stock_clients"
name_of keys.Resume = codes "resume"
name_of keys.PlaceEvery = codes "place_every"
name_of keys.Debug = codes "debug"

-- what stands at a key, or that nothing does, isn't what is wanted there
abbrev pub is_wrong : ConfigKey → Members → Bool
is_wrong keys.Music members = is_none (text_at (codes "music") members)
is_wrong keys.JournalA members = is_none (text_at (codes "journal_a") members)
is_wrong keys.JournalB members = is_none (text_at (codes "journal_b") members)
is_wrong keys.Key members = is_none (key_at (codes "key") members)
is_wrong keys.Tcp members = is_none (optional_text_at (codes "tcp") members)
is_wrong keys.Unix members = is_none (optional_path_at (codes "unix") members)
is_wrong keys.Output members = is_none (optional_text_at (codes "output") members)
is_wrong keys.Form members = is_none (form_at (codes "form") members)
is_wrong keys.Formats members = is_none (formats_at (codes "formats") members)
is_wrong keys.Decoder members = is_none (optional_path_at (codes "decoder") members)
is_wrong keys.StockClients members = is_none (switch_at (codes "stock_clients") members)
is_wrong keys.Resume members = is_none (resume_at (codes "resume") members)
is_wrong keys.PlaceEvery members = is_none (seconds_at (codes "place_every") members)
is_wrong keys.Debug members = is_none (switch_at (codes "debug") members)

-- both files of the journal have one name
abbrev pub are_one : Option (List ℕ) → Option (List ℕ) → Bool
are_one None b = false
are_one (Some a) None = false
are_one (Some a) (Some b) = bytes_eq a b

abbrev pub names_one_file : Members → Bool
names_one_file members = are_one (text_at (codes "journal_a") members) (text_at (codes "journal_b") members)

-- What is told of a text that is no configuration: a key that none may have, what is wrong at one, or that both files are one.
abbrev pub IsTold : Members → Type 0
IsTold members =
    (all_known members ≡ false) ⊎ ((key : ConfigKey) × (is_wrong key members ≡ true)) ⊎ (names_one_file members ≡ true)

-- a table without other keys
abbrev pub if_all_known : Members → Option Members
if_all_known members = if all_known members then Some members else None

-- the two files of a journal are not the same
abbrev pub if_two_files : Settings → Option Settings
if_two_files s = if bytes_eq s.journal_a s.journal_b then None else Some s

-- what the keys of a table say, if that is a configuration
abbrev pub settings_in : Members → Option Settings
settings_in members = do
  music ← text_at (codes "music") members
  journal_a ← text_at (codes "journal_a") members
  journal_b ← text_at (codes "journal_b") members
  key ← key_at (codes "key") members
  tcp ← optional_text_at (codes "tcp") members
  unix ← optional_path_at (codes "unix") members
  output ← optional_text_at (codes "output") members
  form ← form_at (codes "form") members
  formats ← formats_at (codes "formats") members
  decoder ← optional_path_at (codes "decoder") members
  stock_clients ← switch_at (codes "stock_clients") members
  resume ← resume_at (codes "resume") members
  place_every ← seconds_at (codes "place_every") members
  debug ← switch_at (codes "debug") members
  if_two_files (record {
    music = music;
    journal_a = journal_a;
    journal_b = journal_b;
    key = key;
    tcp = tcp;
    unix = unix;
    output = output;
    form = form;
    formats = formats;
    decoder = decoder;
    stock_clients = stock_clients;
    resume = resume;
    place_every = place_every;
    debug = debug;
  })

-- what the table says, if it is a configuration
abbrev pub settings_of : Members → Option Settings
settings_of table = do
  members ← if_all_known table
  settings_in members

-- what a text says, if it is a configuration
abbrev pub configuration : List ℕ → Option Settings
configuration text = option_and_then settings_of (parse_document text)

-- what serve takes of a configuration
pub record ServeSettings : Type 0 where
  pub music : List ℕ
  pub journal_a : List ℕ
  pub journal_b : List ℕ
  pub tcp : Option (List ℕ)
  pub unix : Option (List ℕ)
  pub output : List ℕ
  pub form : Form
  pub formats : Forms
  pub decoder : Option (List ℕ)
  pub stock_clients : Bool
  pub resume : Option Bool
  pub place_every : ℕ
  pub debug : Bool

-- it says where to listen
abbrev pub says_where_to_listen : Settings → Bool
says_where_to_listen s = is_some s.tcp || is_some s.unix

-- the sound would overwrite a file of the journal
abbrev pub plays_into_journal : List ℕ → Settings → Bool
plays_into_journal output s = bytes_eq output s.journal_a || bytes_eq output s.journal_b

-- these settings with this output, if a daemon can serve by them
abbrev pub settings_to_serve : Settings → List ℕ → Option ServeSettings
settings_to_serve s output =
    if says_where_to_listen s && not (plays_into_journal output s) then
    Some (record {
      music = s.music;
      journal_a = s.journal_a;
      journal_b = s.journal_b;
      tcp = s.tcp;
      unix = s.unix;
      output = output;
      form = s.form;
      formats = s.formats;
      decoder = s.decoder;
      stock_clients = s.stock_clients;
      resume = s.resume;
      place_every = s.place_every;
      debug = s.debug;
    })
    else None

-- what serve takes of the settings, if it can serve by them
abbrev pub serve_settings : Settings → Option ServeSettings
serve_settings s = option_and_then (settings_to_serve s) s.output
