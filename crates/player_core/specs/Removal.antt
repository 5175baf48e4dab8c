-- How the ids of entries that leave the queue are taken out of the played list, and out of the round that is kept.
use Rattle.std.specs.Prelude.{◌≡◌, ℕ, ◌≤◌, ◌==◌, not, List, [], ◌∷◌, length, drop, filter}
use Rattle.std.specs.List.{list_any}
use Rattle.play_queue.specs.declared.entry.Entry.{Entry}
use Rattle.play_queue.specs.Entries.{Uris}
use Rattle.player_core.specs.declared.block.Block.{Block}
use Rattle.player_core.specs.Place.{without_id}
use Rattle.player_core.specs.Player.{left_by}

-- the ids of a list but for some
abbrev pub others : List ℕ → List ℕ → List ℕ
others ids played = filter (λ id. not (list_any (λ other. id == other) ids)) played

-- entries leave between these positions alone
pub record Reaches (block : Block) (dropped : Uris) (entries : List Entry) (within : Block) : Type 0 where
  pub rises : within.start ≤ within.end
  pub stands : within.end ≤ length entries
  pub front : (played : List ℕ) → left_by block dropped within.start (drop within.start entries) played
      ≡ left_by block dropped 0 entries played
  pub back : (played : List ℕ) → left_by block dropped within.end (drop within.end entries) played ≡ played

-- a block of the queue leaves, and nothing else
pub record IsFew (block : Block) (dropped : Uris) (entries : List Entry) : Type 0 where
  pub alone : length dropped ≡ 0
  pub rises : block.start ≤ block.end
  pub stands : block.end ≤ length entries

-- ids leave a round, one after the other
abbrev pub without_ids : List ℕ → List ℕ → List ℕ
without_ids [] played = played
without_ids (id ∷ ids) played = without_ids ids (without_id id played)
