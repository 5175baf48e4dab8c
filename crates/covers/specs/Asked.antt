-- What contracts see of a question about a picture, and of bytes of one.
use Rattle.std.specs.Prelude.{ℕ, List, Bool, true, false}
use Rattle.covers.specs.declared.kind.PictureKind.{PictureKind}
use Rattle.covers.specs.declared.kind.PictureKind.TheVariants.{Album, Inside}

pub record AskedPicture : Type 0 where
  pub kind : PictureKind
  pub uri : List ℕ
  pub offset : ℕ
  pub limit : ℕ

-- the size of the whole picture, its MIME type, and bytes of it
pub record ToldChunk : Type 0 where
  pub size : ℕ
  pub mime : List ℕ
  pub bytes : List ℕ

abbrev pub same_kind : PictureKind → PictureKind → Bool
same_kind Album Album = true
same_kind Album Inside = false
same_kind Inside Album = false
same_kind Inside Inside = true
