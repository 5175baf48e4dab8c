-- What a writer leaves, and what it asks for.
use Rattle.std.specs.Prelude.{◌≡◌, ◌+◌, ◌≤◌, ◌++◌, ℕ, List, length, vec_len, vec_capacity}
use Rattle.std.specs.Global.{Vec}
use Rattle.stickers.specs.Sticker.{Sticker}

-- the spare room holds so many bytes
abbrev pub HasRoom : Vec ℕ → ℕ → Type 0
HasRoom out len = vec_len out + len ≤ vec_capacity out

-- the bytes stand behind what was there, in the same room
pub record Appends (before after : Vec ℕ) (bytes : List ℕ) : Type 0 where
  pub items : after.items ≡ before.items ++ bytes
  pub capacity : vec_capacity after ≡ vec_capacity before

-- a playlist whose name is no longer than 16 bits count, and with no more songs than all playlists have
pub record IsShortList (list : List ℕ × List (List ℕ)) : Type 0 where
  pub name : length list.0 ≤ 65535
  pub songs : length list.1 ≤ 65536

-- a sticker whose texts are no longer than 16 bits count
pub record IsShortSticker (s : Sticker) : Type 0 where
  pub uri : length s.uri ≤ 65535
  pub name : length s.name ≤ 65535
  pub value : length s.value ≤ 65535
