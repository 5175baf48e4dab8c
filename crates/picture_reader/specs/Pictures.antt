-- The pictures of songs among the files of a folder.
use Rattle.std.specs.Prelude.{◌≡◌, ◌≢◌, ℕ, ◌==◌, List, [], length, Option, option_map, option_and_then}
use Rattle.std.specs.List.{before_last}
use Rattle.std.specs.String.{string_bytes}
use Rattle.song_files.specs.Folder.{File, bytes_at}
use Rattle.song_files.specs.Listing.{path_in, IsListing}
use Rattle.song_files.specs.declared.folder.FolderEntry.{FolderEntry}
use Rattle.covers.specs.AlbumNames.{album_picture}
use Rattle.covers.specs.Answers.{Picture, answer_of}
use Rattle.covers.specs.Asked.{AskedPicture}
use Rattle.covers.specs.Chunks.{picture_bytes, whole_file}
use Rattle.covers.specs.SongPictures.{PictureInside, song_picture}
use Rattle.covers.specs.declared.asked.PictureAnswer.{PictureAnswer}
use Rattle.covers.specs.declared.asked.PictureAnswer.TheVariants.{Unreadable}
use Rattle.covers.specs.declared.kind.PictureKind.{PictureKind}
use Rattle.covers.specs.declared.kind.PictureKind.TheVariants.{Album, Inside}
use Rattle.covers.specs.declared.place.PicturePlace.{PicturePlace}

-- the folder that a path stands in: what is before its last slash, the root where there is none
abbrev pub folder_of : List ℕ → List ℕ
folder_of path = before_last (λ b. b == 47) path

-- the picture at a place of a file
abbrev pub picture_at : List ℕ → List ℕ → PicturePlace → Picture
picture_at file mime place = record { mime = mime; bytes = picture_bytes file place }

-- the picture that a song's file has inside
abbrev pub inside_picture : List ℕ → Option Picture
inside_picture file =
    option_map (λ (p : PictureInside). picture_at file p.mime (record { first = p.first; len = p.len })) (song_picture file)

-- a file that is a picture itself, whose MIME type isn't known
abbrev pub plain_picture : List ℕ → Option Picture
plain_picture file = option_map (picture_at file []) (whole_file (length file))

abbrev pub plain_at : List File → List ℕ → Option Picture
plain_at files path = option_and_then plain_picture (bytes_at files path)

-- the picture of a folder in which these entries stand
abbrev pub picture_among : List File → List ℕ → List FolderEntry → Option Picture
picture_among files folder entries =
    option_and_then (λ (entry : FolderEntry). plain_at files (path_in folder (string_bytes entry.name))) (album_picture entries)

-- the picture of a folder, by a listing of it; one that isn't there has no entries
pub record IsAlbumPicture (files : List File) (folder : List ℕ) (picture : Option Picture) : Type 0 where
  pub entries : List FolderEntry
  pub listing : IsListing files folder entries
  pub same : picture ≡ picture_among files folder entries

-- the picture that is meant of the song under a URI
abbrev pub IsPictureOf : List File → PictureKind → List ℕ → Option Picture → Type 0
IsPictureOf files Album uri picture = IsAlbumPicture files (folder_of uri) picture
IsPictureOf files Inside uri picture = picture ≡ option_and_then inside_picture (bytes_at files uri)

-- what is answered is of the picture that is meant, or that there is none
pub record IsAnswer (files : List File) (ask : AskedPicture) (answer : PictureAnswer) : Type 0 where
  pub picture : Option Picture
  pub is : IsPictureOf files ask.kind ask.uri picture
  pub same : answer ≡ answer_of picture ask

-- unless it is said that it could not be read
abbrev pub IsTold : List File → AskedPicture → PictureAnswer → Type 0
IsTold files ask answer = answer ≢ Unreadable → IsAnswer files ask answer
