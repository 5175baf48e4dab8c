-- The words by which entries are put in random order.
use Rattle.std.specs.Prelude.{◌≡◌, ℕ, ◌+◌, ◌<◌, ◌==◌, List, slice_index, if◌then◌else◌}
use Rattle.rand_chacha.specs.ChaCha.{word_at, key_of}

-- the word of an id is the one at place id of stream g of ChaCha8, of four double rounds, under the stored
-- key; g is the order number
unfoldable pub word : List ℕ → ℕ → ℕ → ℕ
word key order id = word_at 4 (key_of key) order id

-- the order number after one; 0 follows the greatest
abbrev pub next_order : ℕ → ℕ
next_order order = if order == 18446744073709551615 then 0 else order + 1

-- a random round: the stored key, and its order number
pub record Round : Type 0 where
  pub key : List ℕ
  pub order : ℕ

-- 64 words, those of the ids from one on
abbrev pub AreWords : List ℕ → ℕ → ℕ → List ℕ → Type 0
AreWords key order first words = (i : ℕ) → i < 64 → slice_index words i ≡ word key order (first + i)
