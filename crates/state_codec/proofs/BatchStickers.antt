-- The stickers of dropped songs go one song after the other.
use Rattle.std.proofs.Common.{◌≡◌, ℕ, ◌+◌, ◌<◌, Bool, true, false, cond, not, ◌||◌, List, [], ◌∷◌, ◌++◌, length, take, get_or, refl, sym}
use Rattle.std.proofs.Common.{ap, ◌∙◌}
use Rattle.std.specs.Str.{bytes_eq}
use Rattle.std.proofs.lemmas.List.{take_more}
use Rattle.std.proofs.lemmas.List.Folds.{list_any-append}
use Rattle.play_queue.specs.Entries.{Uris, is_among}
use Rattle.state_codec.specs.OpsRows.{without_songs}
use Rattle.stickers.specs.Sticker.{Sticker, without_song}

pub without_none : (all : List Sticker) → without_songs all [] ≡ all
without_none [] = refl
without_none (sticker ∷ stickers) = ap (λ rest. sticker ∷ rest) (without_none stickers)

without_more : (all : List Sticker) (uris : Uris) (uri : List ℕ)
    → without_song (without_songs all uris) uri ≡ without_songs all (uris ++ uri ∷ [])
without_more [] uris uri = refl
without_more (sticker ∷ stickers) uris uri =
    rw (list_any-append (λ other. bytes_eq other sticker.uri) uris (uri ∷ []))
    (of (is_among uris sticker.uri) (bytes_eq uri sticker.uri) refl (without_more stickers uris uri))
  where
    of : (gone here : Bool) → bytes_eq uri sticker.uri ≡ here
        → without_song (without_songs stickers uris) uri ≡ without_songs stickers (uris ++ uri ∷ [])
        → without_song (cond (not gone) (sticker ∷ without_songs stickers uris) (without_songs stickers uris)) uri
        ≡ cond (not (gone || (here || false))) (sticker ∷ without_songs stickers (uris ++ uri ∷ []))
        (without_songs stickers (uris ++ uri ∷ []))
    of true here is rest = rest
    of false true is rest = rw is rest
    of false false is rest = rw is (ap (λ l. sticker ∷ l) rest)

pub without_step : (all : List Sticker) (uris : Uris) (i : ℕ) (uri : List ℕ) → i < length uris → uri ≡ get_or uris i uri
    → without_song (without_songs all (take i uris)) uri ≡ without_songs all (take (i + 1) uris)
without_step all uris i uri within is =
    without_more all (take i uris) uri ∙ ap (without_songs all) (ap (λ u. take i uris ++ u ∷ []) is ∙ sym (take_more uris i uri within))
