-- The commands of pictures: a URI, which may be any text, and an offset.
use Rattle.std.specs.Prelude.{ℕ, List, Result, Ok}
use Rattle.command_text.specs.declared.command.pictures.PicturesCommand.{PicturesCommand}
use Rattle.command_text.specs.declared.command.pictures.PicturesCommand.TheVariants as commands
use Rattle.command_text.specs.declared.refusal.CommandRefusal.{CommandRefusal}
use Rattle.command_text.specs.declared.topic.PicturesName.{PicturesName}
use Rattle.command_text.specs.declared.topic.PicturesName.TheVariants as names
use Rattle.command_text.specs.Arguments.{number_of, text_of}
use Rattle.command_text.specs.Counts.{◌>>=◌, Word, argument, two_arguments}

abbrev pub picture_with : PicturesName → Word → ℕ → PicturesCommand
picture_with names.AlbumArt uri offset = commands.AlbumArt uri offset
picture_with names.ReadPicture uri offset = commands.ReadPicture uri offset

unfoldable pub pictures_of : PicturesName → List Word → Result PicturesCommand CommandRefusal
pictures_of name words = do
  x ← two_arguments words
  uri ← argument 1 (text_of x.0)
  offset ← argument 2 (number_of x.1)
  Ok (picture_with name uri offset)
