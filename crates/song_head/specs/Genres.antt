-- Genres by the numbers that ID3v1 gives them, as MPD 0.23 tells them.
use Rattle.std.specs.Prelude.{ℕ, ◌==◌, nat_le, List, [], ◌∷◌, ◌++◌, Bool, false, Option, Some, None, codes, option_and_then, slice_get, unwrap_or, if◌then◌else◌}
use Rattle.std.specs.Str.{bytes_eq}
use Rattle.song_head.specs.Numbers.{digits_of}

-- the names of ID3v1 and its extensions, that of the number 0 first
unfoldable pub genre_names : List (List ℕ)
genre_names =
    codes "Blues" ∷ codes "Classic Rock" ∷ codes "Country" ∷ codes "Dance" ∷ codes "Disco" ∷ codes "Funk" ∷ codes "Grunge" ∷
    codes "Hip-Hop" ∷ codes "Jazz" ∷ codes "Metal" ∷ codes "New Age" ∷ codes "Oldies" ∷ codes "Other" ∷ codes "Pop" ∷ codes "R&B" ∷
    codes "Rap" ∷ codes "Reggae" ∷ codes "Rock" ∷ codes "Techno" ∷ codes "Industrial" ∷ codes "Alternative" ∷ codes "Ska" ∷
    codes "Death Metal" ∷ codes "Pranks" ∷ codes "Soundtrack" ∷ codes "Euro-Techno" ∷ codes "Ambient" ∷ codes "Trip-Hop" ∷ codes "Vocal" ∷
    codes "Jazz+Funk" ∷ codes "Fusion" ∷ codes "Trance" ∷ codes "Classical" ∷ codes "Instrumental" ∷ codes "Acid" ∷ codes "House" ∷
    codes "Game" ∷ codes "Sound Clip" ∷ codes "Gospel" ∷ codes "Noise" ∷ codes "AlternRock" ∷ codes "Bass" ∷ codes "Soul" ∷ codes "Punk" ∷
    codes "Space" ∷ codes "Meditative" ∷ codes "Instrumental Pop" ∷ codes "Instrumental Rock" ∷ codes "Ethnic" ∷ codes "Gothic" ∷
    codes "Darkwave" ∷ codes "Techno-Industrial" ∷ codes "Electronic" ∷ codes "Pop-Folk" ∷ codes "Eurodance" ∷ codes "Dream" ∷
    codes "Southern Rock" ∷ codes "Comedy" ∷ codes "Cult" ∷ codes "Gangsta" ∷ codes "Top 40" ∷ codes "Christian Rap" ∷ codes "Pop/Funk" ∷
    codes "Jungle" ∷ codes "Native American" ∷ codes "Cabaret" ∷ codes "New Wave" ∷ codes "Psychedelic" ∷ codes "Rave" ∷
    codes "Showtunes" ∷ codes "Trailer" ∷ codes "Lo-Fi" ∷ codes "Tribal" ∷ codes "Acid Punk" ∷ codes "Acid Jazz" ∷ codes "Polka" ∷
    codes "Retro" ∷ codes "Musical" ∷ codes "Rock & Roll" ∷ codes "Hard Rock" ∷ codes "Folk" ∷ codes "Folk/Rock" ∷ codes "National Folk" ∷
    codes "Swing" ∷ codes "Fast-Fusion" ∷ codes "Bebob" ∷ codes "Latin" ∷ codes "Revival" ∷ codes "Celtic" ∷ codes "Bluegrass" ∷
    codes "Avantgarde" ∷ codes "Gothic Rock" ∷ codes "Progressive Rock" ∷ codes "Psychedelic Rock" ∷ codes "Symphonic Rock" ∷
    codes "Slow Rock" ∷ codes "Big Band" ∷ codes "Chorus" ∷ codes "Easy Listening" ∷ codes "Acoustic" ∷ codes "Humour" ∷ codes "Speech" ∷
    codes "Chanson" ∷ codes "Opera" ∷ codes "Chamber Music" ∷ codes "Sonata" ∷ codes "Symphony" ∷ codes "Booty Bass" ∷ codes "Primus" ∷
    codes "Porn Groove" ∷ codes "Satire" ∷ codes "Slow Jam" ∷ codes "Club" ∷ codes "Tango" ∷ codes "Samba" ∷ codes "Folklore" ∷
    codes "Ballad" ∷ codes "Power Ballad" ∷ codes "Rhythmic Soul" ∷ codes "Freestyle" ∷ codes "Duet" ∷ codes "Punk Rock" ∷
    codes "Drum Solo" ∷ codes "A Capella" ∷ codes "Euro-House" ∷ codes "Dance Hall" ∷ codes "Goa" ∷ codes "Drum & Bass" ∷
    codes "Club-House" ∷ codes "Hardcore" ∷ codes "Terror" ∷ codes "Indie" ∷ codes "BritPop" ∷ codes "Negerpunk" ∷ codes "Polsk Punk" ∷
    codes "Beat" ∷ codes "Christian Gangsta Rap" ∷ codes "Heavy Metal" ∷ codes "Black Metal" ∷ codes "Crossover" ∷
    codes "Contemporary Christian" ∷ codes "Christian Rock" ∷ codes "Merengue" ∷ codes "Salsa" ∷ codes "Thrash Metal" ∷ codes "Anime" ∷
    codes "JPop" ∷ codes "Synthpop" ∷
    []

-- the name of a number, or of one of the two kinds that have letters
abbrev pub genre_name : List ℕ → List ℕ
genre_name text =
    if bytes_eq text (codes "RX") then codes "Remix"
    else (if bytes_eq text (codes "CR") then codes "Cover"
    else unwrap_or (option_and_then (slice_get genre_names) (digits_of text)) text)

-- a bracket that opens in front of another stands for itself
abbrev pub is_bracket : List ℕ → Bool
is_bracket [] = false
is_bracket (b ∷ text) = b == 40

-- What stands in brackets in front, one after the other, and what stands behind them. A bracket that isn't closed reaches to the end.
abbrev pub genres_from : Option (List ℕ) → List ℕ → List (List ℕ)
genres_from None [] = []
genres_from None (b ∷ text) =
    if b == 40 then (if is_bracket text then text ∷ [] else genres_from (Some []) text) else (b ∷ text) ∷ []
genres_from (Some inner) [] = inner ∷ []
genres_from (Some inner) (b ∷ text) =
    if b == 41 then inner ∷ genres_from None text else genres_from (Some (inner ++ b ∷ [])) text

-- the genres of a text: of versions before 2.4 there may be several
abbrev pub genres_in : ℕ → List ℕ → List (List ℕ)
genres_in version text = if nat_le version 3 then genres_from None text else text ∷ []

-- what stands before the first closing bracket, or all
abbrev pub before_bracket : List ℕ → List ℕ
before_bracket [] = []
before_bracket (b ∷ text) = if b == 41 then [] else b ∷ before_bracket text
