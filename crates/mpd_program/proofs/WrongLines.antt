-- Of each table that is no configuration something is told.
use Rattle.std.proofs.Common.{◌≡◌, ◌⊎◌, inl, inr, Bool, true, false, Option, Some, None, codes, is_none, if◌then◌else◌, refl}
use Rattle.std.specs.Str.{bytes_eq}
use Rattle.toml.specs.Data.{Members}
use Rattle.mpd_program.specs.Configuration.{Settings, ◌>>=◌, all_known, text_at, key_at, optional_text_at, optional_path_at, form_at, formats_at, resume_at, seconds_at, switch_at, settings_in, settings_of, is_wrong, names_one_file, IsTold}
use Rattle.mpd_program.specs.declared.config_key.ConfigKey.{ConfigKey}
use Rattle.mpd_program.specs.declared.config_key.ConfigKey.TheVariants as keys

-- where nothing comes of two parts, either the first is none or nothing comes of the second
first_or_next : {A B P : Type 0} (x : Option A) {f : A → Option B} → (x >>= f) ≡ None → (is_none x ≡ true → P)
    → ((a : A) → x ≡ Some a → f a ≡ None → P) → P
first_or_next None h missing next = missing refl
first_or_next (Some a) h missing next = next a refl h

-- what is wrong at a key
at_key : (table : Members) (key : ConfigKey) → is_wrong key table ≡ true → IsTold table
at_key table key wrong = inr (inl (key, wrong))

-- both files are one, where nothing comes of the settings
one_file : (is_one : Bool) (s : Settings) → (if is_one then None else Some s) ≡ None → is_one ≡ true
one_file true s h = refl
one_file false s h = cc

-- nothing comes of the keys of a table
keys_told : (table : Members) → settings_in table ≡ None → IsTold table
keys_told table h =
    first_or_next (text_at (codes "music") table) h (at_key table keys.Music) (λ music music_is h.
    first_or_next (text_at (codes "journal_a") table) h (at_key table keys.JournalA) (λ a a_is h.
    first_or_next (text_at (codes "journal_b") table) h (at_key table keys.JournalB) (λ b b_is h.
    first_or_next (key_at (codes "key") table) h (at_key table keys.Key) (λ key key_is h.
    first_or_next (optional_text_at (codes "tcp") table) h (at_key table keys.Tcp) (λ tcp tcp_is h.
    first_or_next (optional_path_at (codes "unix") table) h (at_key table keys.Unix) (λ unix unix_is h.
    first_or_next (optional_text_at (codes "output") table) h (at_key table keys.Output) (λ output output_is h.
    first_or_next (form_at (codes "form") table) h (at_key table keys.Form) (λ form form_is h.
    first_or_next (formats_at (codes "formats") table) h (at_key table keys.Formats) (λ formats formats_is h.
    first_or_next (optional_path_at (codes "decoder") table) h (at_key table keys.Decoder) (λ decoder decoder_is h.
    first_or_next (switch_at (codes "stock_clients") table) h (at_key table keys.StockClients) (λ stock_clients stock_clients_is h.
    first_or_next (resume_at (codes "resume") table) h (at_key table keys.Resume) (λ resume resume_is h.
    first_or_next (seconds_at (codes "place_every") table) h (at_key table keys.PlaceEvery) (λ place_every place_every_is h.
    first_or_next (switch_at (codes "debug") table) h (at_key table keys.Debug) (λ debug debug_is h.
    inr (inr (rw (a_is, b_is) (one_file (bytes_eq a b) (record { music = music; journal_a = a; journal_b = b; key = key; tcp = tcp; unix = unix; output = output; form = form; formats = formats; decoder = decoder; stock_clients = stock_clients; resume = resume; place_every = place_every; debug = debug }) h)))))))))))))))))

pub is_told : (table : Members) → settings_of table ≡ None → IsTold table
is_told table = by_known (all_known table) refl
  where
    by_known : (known : Bool) → all_known table ≡ known → ((if known then Some table else None) >>= settings_in) ≡ None → IsTold table
    by_known true is h = keys_told table h
    by_known false is h = inl is
