-- What a call of the stickers that isn't refused can rely on.
use Rattle.std.specs.Prelude.{◌≡◌, ℕ, ◌<◌, List, length, is_some, false, IsTrue}
use Rattle.stickers.specs.Limits.{MAX_STICKERS}
use Rattle.stickers.specs.Name.{is_good_name}
use Rattle.stickers.specs.Sticker.{Sticker, value_at}

-- a name that a sticker can have, and room for the sticker where it is new
pub record HasRoom (all : List Sticker) (uri name : List ℕ) : Type 0 where
  pub good : IsTrue (is_good_name name)
  pub few : is_some (value_at all uri name) ≡ false → length all < MAX_STICKERS
