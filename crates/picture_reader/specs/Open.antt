-- A picture that is open, and what was found.
use Rattle.std.specs.Prelude.{◌+◌, ◌≤◌, ℕ, List, length, Option, Some, None, IfSome}
use Rattle.std.specs.String.{string_bytes}
use Rattle.covers.specs.Answers.{Picture, most_of}
use Rattle.covers.specs.Asked.{AskedPicture}
use Rattle.covers.specs.declared.asked.PictureAnswer.{PictureAnswer}
use Rattle.covers.specs.declared.asked.PictureAnswer.TheVariants.{NoPicture, Unreadable, PastEnd, Chunk}
use Rattle.picture_reader.specs.Pictures.{picture_at}
use Rattle.picture_reader.specs.declared.open_picture.OpenPicture.{OpenPicture}

-- the picture that is open
abbrev pub held : {S : Type 0} → (S → List ℕ) → OpenPicture S → Picture
held bytes opened = picture_at (bytes opened.source) (string_bytes opened.mime) opened.place

-- the file tells its bytes, and the picture stands in it
pub record IsWhole {S : Type 0} (bytes : S → List ℕ) (honest : S → Type 0) (opened : OpenPicture S) : Type 0 where
  pub is_honest : honest opened.source
  pub within : opened.place.first + opened.place.len ≤ length (bytes opened.source)

-- such a one, and it is the picture that was looked for
pub record IsOpenOf
    {S : Type 0} (bytes : S → List ℕ) (honest : S → Type 0) (Is : Option Picture → Type 0) (opened : OpenPicture S)
    : Type 0 where
  pub whole : IsWhole bytes honest opened
  pub is : Is (Some (held bytes opened))

-- what was found, which may be that there is no picture
abbrev pub IsFound : {S : Type 0} → (S → List ℕ) → (S → Type 0) → (Option Picture → Type 0) → Option (OpenPicture S) → Type 0
IsFound bytes honest Is None = Is None
IsFound bytes honest Is (Some opened) = IsOpenOf bytes honest Is opened

-- the reads of what was found never fail
abbrev pub IsSteady : {S : Type 0} → (S → Type 0) → Option (OpenPicture S) → Type 0
IsSteady steady found = IfSome found (λ opened. steady opened.source)

-- no more bytes are told than may be
abbrev pub HasRoom : AskedPicture → PictureAnswer → Type 0
HasRoom ask NoPicture = Unit {0}
HasRoom ask Unreadable = Unit {0}
HasRoom ask PastEnd = Unit {0}
HasRoom ask (Chunk chunk) = length chunk.bytes ≤ most_of ask
