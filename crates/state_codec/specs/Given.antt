-- What a reader of a field answers.
use Rattle.std.specs.Prelude.{◌≡◌, ℕ, ⊤, true, false, List, [], ◌∷◌, ◌++◌, Option, Some, None, option_copied, Result, Ok, Err}
use Rattle.song_files.specs.Tags.{TagText, added}
use Rattle.song_files.specs.declared.tag.Tag.{Tag}
use Rattle.song_files.specs.declared.folder.FileStamp.{FileStamp}
use Rattle.wave_pcm.specs.declared.info.WaveInfo.{WaveInfo}
use Rattle.std.specs.Global.{Vec}
use denote.Ref.{Bor}
use Rattle.state_codec.specs.declared.fields.ReadError.{ReadError}
use Rattle.state_codec.specs.declared.fields.ReadError.TheVariants.{Fault, NoMemory}
use Rattle.song_db.specs.Row.{Row}
use Rattle.play_queue.specs.Builder.{has_id}
use Rattle.play_queue.specs.Queue.{QueueState}
use Rattle.play_queue.specs.declared.entry.Entry.{Entry}
use Rattle.stickers.specs.Sticker.{Sticker}
use Rattle.state_codec.specs.Fields.{Field}
use Rattle.state_codec.specs.ReadingRows.{RowFields}
use Rattle.state_codec.specs.SavedState.{SavedState}
use Rattle.state_codec.specs.Stored.{state_of}
use Rattle.state_codec.specs.declared.saved.parts.SavedParts.{SavedParts}

-- the fault is what reading gives, unless memory ran out
abbrev pub Fails : {A : Type 0} → ReadError → Field A → Type 0
Fails (Fault left) field = field ≡ Err left
Fails NoMemory field = ⊤

-- the value, with the bytes that are then left, is what reading gives, or the fault is
abbrev pub Gives : {A : Type 0} → Result A ReadError → List ℕ → Field A → Type 0
Gives (Ok x) rest field = field ≡ Ok (x, rest)
Gives (Err e) rest field = Fails e field

-- the same of a text that stands in the bytes
abbrev pub GivesText : Result (Bor (List ℕ)) ReadError → List ℕ → Field (List ℕ) → Type 0
GivesText (Ok text) rest field = field ≡ Ok (text.now, rest)
GivesText (Err e) rest field = Fails e field

-- the same of a row, whose URI was read
abbrev pub GivesRow : Result (Bor Row) ReadError → List ℕ → Field (List ℕ) → Type 0
GivesRow (Ok row) rest field = field ≡ Ok (row.now.uri, rest)
GivesRow (Err e) rest field = Fails e field

-- the same of a list
abbrev pub GivesList : {A : Type 0} → Result (Vec A) ReadError → List ℕ → Field (List A) → Type 0
GivesList (Ok xs) rest field = field ≡ Ok (xs.items, rest)
GivesList (Err e) rest field = Fails e field

-- the same of a text of a tag, or none, that stands in the bytes
abbrev pub GivesTag : Result (Option (Bor (List ℕ))) ReadError → List ℕ → Field (Option (List ℕ)) → Type 0
GivesTag (Ok tag) rest field = field ≡ Ok (option_copied tag, rest)
GivesTag (Err e) rest field = Fails e field

-- with a text of a tag, or none, behind those of it that are known
abbrev pub with_some : List TagText → Tag → Option (List ℕ) → List TagText
with_some known tag None = known
with_some known tag (Some text) = added known tag text

-- a text of a tag, or none, was read and is among the known ones now, or the fault is that of reading it
abbrev pub AddsTag : Result (Unit {0}) ReadError → Tag → List TagText → List TagText → List ℕ → Field (Option (List ℕ)) → Type 0
AddsTag (Ok done) tag known now rest field = (text : Option (List ℕ)) × (field ≡ Ok (text, rest)) × (now ≡ with_some known tag text)
AddsTag (Err e) tag known now rest field = Fails e field

-- the same of the head and the stamp of a file, as the fields of a row
abbrev pub GivesHead : Result (WaveInfo × Option FileStamp) ReadError → List ℕ → Field RowFields → Type 0
GivesHead (Ok head) rest field =
    field ≡ Ok ((head.0.rate, (head.0.channels, (head.0.first_byte, (head.0.frames, (head.1, head.0.tags))))), rest)
GivesHead (Err e) rest field = Fails e field

-- one more item was read behind the known ones, or the fault is that of reading it
abbrev pub GivesMore : {A : Type 0} → Result (Unit {0}) ReadError → List A → List A → List ℕ → Field A → Type 0
GivesMore {A} (Ok done) known now rest field = (a : A) × (field ≡ Ok (a, rest)) × (now ≡ known ++ a ∷ [])
GivesMore (Err e) known now rest field = Fails e field

-- the same of a sticker, whose URI is answered
abbrev pub GivesSticker : Result (Bor (List ℕ)) ReadError → List Sticker → List Sticker → List ℕ → Field Sticker → Type 0
GivesSticker (Ok uri) known now rest field = (s : Sticker) × (field ≡ Ok (s, rest)) × (now ≡ known ++ s ∷ []) × (uri.now ≡ s.uri)
GivesSticker (Err e) known now rest field = Fails e field

-- the same of an entry, with the queue that it is added to
abbrev pub GivesEntry : Result QueueState ReadError → QueueState → List ℕ → Field Entry → Type 0
GivesEntry (Ok queue) known rest field =
    (entry : Entry) × (field ≡ Ok (entry, rest)) × (queue ≡ record known { entries = known.entries ++ entry ∷ [] })
GivesEntry (Err e) known rest field = Fails e field

-- the entry is added, unless its id is that of another, or memory ran out
abbrev pub TakesEntry : Result QueueState ReadError → QueueState → Entry → ReadError → Type 0
TakesEntry (Ok queue) known entry at_id =
    (has_id known.entries entry.id ≡ false) × (queue ≡ record known { entries = known.entries ++ entry ∷ [] })
TakesEntry (Err NoMemory) known entry at_id = ⊤
TakesEntry (Err (Fault left)) known entry at_id = (has_id known.entries entry.id ≡ true) × (Fault left ≡ at_id)

-- the queue of the entries that were read, with the version and the next id that were read before
abbrev pub GivesQueue : Result QueueState ReadError → ℕ → ℕ → List ℕ → Field (List Entry) → Type 0
GivesQueue (Ok queue) version next_id rest field =
    (field ≡ Ok (queue.entries, rest)) × (queue.version ≡ version) × (queue.next_id ≡ next_id)
GivesQueue (Err e) version next_id rest field = Fails e field

-- the parts of a saved state
abbrev pub GivesParts : Result SavedParts ReadError → List ℕ → Field SavedState → Type 0
GivesParts (Ok parts) rest field = field ≡ Ok (state_of parts, rest)
GivesParts (Err e) rest field = Fails e field
