-- The endings of songs' names.
use Rattle.std.specs.Prelude.{ℕ, ◌-◌, Bool, List, [], ◌∷◌, ◌++◌, length, map, drop, codes, if◌then◌else◌}
use Rattle.std.specs.Char.{to_ascii_lowercase}
use Rattle.std.specs.List.{list_any}
use Rattle.std.specs.Str.{bytes_eq}
use Rattle.song_db.specs.declared.rules.Endings.{Endings}

-- those of files whose sound is, as a rule, plain or packed without loss, in small letters
abbrev pub lossless_endings : List (List ℕ)
lossless_endings =
    codes ".aif" ∷ codes ".aifc" ∷ codes ".aiff" ∷ codes ".ape" ∷ codes ".au" ∷ codes ".caf" ∷ codes ".dff" ∷ codes ".dsf"
    ∷ codes ".tak" ∷ codes ".tta" ∷ codes ".wv" ∷ []

-- those of sound that is coded with loss, and of what may have either
abbrev pub coded_endings : List (List ℕ)
coded_endings =
    codes ".aac" ∷ codes ".asf" ∷ codes ".m4a" ∷ codes ".m4b" ∷ codes ".mka" ∷ codes ".mp2" ∷ codes ".mp3" ∷ codes ".mp4"
    ∷ codes ".mpc" ∷ codes ".oga" ∷ codes ".ogg" ∷ codes ".opus" ∷ codes ".spx" ∷ codes ".wma" ∷ []

-- those of the files that a decoder beside the daemon reads
abbrev pub decoded_endings : List (List ℕ)
decoded_endings = lossless_endings ++ coded_endings

-- the endings in small letters
abbrev pub endings_of : Endings → List (List ℕ)
endings_of endings =
    codes ".wav" ∷ ((if endings.wave then codes ".wave" ∷ [] else []) ++ ((if endings.flac then codes ".flac" ∷ [] else [])
    ++ (if endings.decoded then decoded_endings else [])))

-- the last bytes of a path are the ending, in any case
abbrev pub has_ending : List ℕ → List ℕ → Bool
has_ending path ending = bytes_eq (map to_ascii_lowercase (drop (length path - length ending) path)) ending

-- or one of several
abbrev pub is_named : Endings → List ℕ → Bool
is_named endings path = list_any (has_ending path) (endings_of endings)
