-- The text of an error.
use Rattle.std.specs.Fmt.{decimal}
use Rattle.std.specs.Prelude.{ℕ, List, ◌++◌, codes}
use Rattle.player_core.specs.declared.failure.PlayFailure.{PlayFailure}
use Rattle.player_core.specs.declared.failure.PlayFailure.TheVariants.{CannotPlay, OutputFailed, Withheld}

abbrev pub text_of : PlayFailure → List ℕ
text_of (CannotPlay uri) = codes "cannot play " ++ uri
text_of OutputFailed = codes "output failed"
text_of (Withheld missing songs) =
    codes "update would drop " ++ (decimal missing ++ (codes " of " ++ (decimal songs ++ codes " songs: is the music there?")))
