-- The pictures that stay open between two questions, each for a client.
use Rattle.std.specs.Prelude.{◌≡◌, ℕ, ◌+◌, ◌-◌, ◌==◌, ◌&&◌, not, nat_lt, Bool, false, List, [], ◌∷◌, ◌++◌, length, drop, filter}
use Rattle.std.specs.Prelude.{Option, Some, None, IfSome}
use Rattle.std.specs.List.{All, find}
use Rattle.std.specs.Option.{option_map_or}
use Rattle.std.specs.Str.{bytes_eq}
use Rattle.std.specs.String.{string_bytes}
use Rattle.song_files.specs.Folder.{File}
use Rattle.covers.specs.Asked.{AskedPicture, same_kind}
use Rattle.picture_reader.specs.Limits.{MAX_OPEN}
use Rattle.picture_reader.specs.Open.{IsOpenOf}
use Rattle.picture_reader.specs.Pictures.{IsPictureOf}
use Rattle.picture_reader.specs.declared.kept.KeptPicture.{KeptPicture}

abbrev pub is_of : {S : Type 0} → ℕ → KeptPicture S → Bool
is_of client kept = kept.client == client

-- it is the picture that is asked for
abbrev pub is_asked : {S : Type 0} → AskedPicture → KeptPicture S → Bool
is_asked ask kept = same_kind kept.kind ask.kind && bytes_eq (string_bytes kept.uri) ask.uri

-- a question that goes on with the picture which is open for the client, and doesn't begin it
abbrev pub goes_on : {S : Type 0} → ℕ → AskedPicture → List (KeptPicture S) → Bool
goes_on client ask pictures = nat_lt 0 ask.offset && option_map_or (is_asked ask) (find (is_of client) pictures) false

-- all but those of a client
abbrev pub without : {S : Type 0} → ℕ → List (KeptPicture S) → List (KeptPicture S)
without client pictures = filter (λ kept. not (is_of client kept)) pictures

-- with one more behind them; where there would be too many, without the first, which was used longest ago
abbrev pub with_last : {S : Type 0} → KeptPicture S → List (KeptPicture S) → List (KeptPicture S)
with_last kept pictures = drop (length pictures + 1 - MAX_OPEN) pictures ++ kept ∷ []

-- it is the picture of these files that it is kept as
abbrev pub IsKept : {S : Type 0} → (S → List ℕ) → (S → Type 0) → List File → KeptPicture S → Type 0
IsKept bytes honest files kept = IsOpenOf bytes honest (IsPictureOf files kept.kind (string_bytes kept.uri)) kept.picture

abbrev pub AreOpen : {S : Type 0} → (S → List ℕ) → (S → Type 0) → List File → List (KeptPicture S) → Type 0
AreOpen bytes honest files pictures = All (IsKept bytes honest files) pictures

-- the reads of all of them never fail
abbrev pub AreSteady : {S : Type 0} → (S → Type 0) → List (KeptPicture S) → Type 0
AreSteady steady pictures = All (λ kept. steady kept.picture.source) pictures

-- the picture that is asked for, kept as that
pub record IsKeptAs
    {S : Type 0} (bytes : S → List ℕ) (honest : S → Type 0) (files : List File) (ask : AskedPicture) (kept : KeptPicture S)
    : Type 0 where
  pub kind : kept.kind ≡ ask.kind
  pub uri : string_bytes kept.uri ≡ ask.uri
  pub is : IsKept bytes honest files kept

-- or that there is none
abbrev pub IsChosen : {S : Type 0} → (S → List ℕ) → (S → Type 0) → List File → AskedPicture → Option (KeptPicture S) → Type 0
IsChosen bytes honest files ask None = IsPictureOf files ask.kind ask.uri None
IsChosen bytes honest files ask (Some kept) = IsKeptAs bytes honest files ask kept

abbrev pub IsChosenSteady : {S : Type 0} → (S → Type 0) → Option (KeptPicture S) → Type 0
IsChosenSteady steady chosen = IfSome chosen (λ kept. steady kept.picture.source)
