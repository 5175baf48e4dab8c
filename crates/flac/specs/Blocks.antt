-- The metadata blocks of a stream (RFC 9639, section 8): a byte with the flag of the last block and the type, a length of three bytes,
-- and the data.
use Rattle.std.specs.Prelude.{ℕ, zero, suc, ◌+◌, ◌-◌, ◌%◌, ◌≤◌, ◌<◌, ◌==◌, ◌&&◌, not, nat_le, List, [], ◌∷◌, length, drop, slice_index}
use Rattle.std.specs.Prelude.{slice_get, slice_range, Bool, Option, Some, None, Result, Ok, Err, if◌then◌else◌}
use Rattle.flac.specs.Numbers.{be24}
use Rattle.flac.specs.Steps.{◌>>=◌, joined}
use Rattle.flac.specs.declared.blocks.BlockHead.{BlockHead}
use Rattle.flac.specs.declared.refusal.FlacError.{FlacError}
use Rattle.flac.specs.declared.refusal.FlacError.TheVariants.{DamagedBlock, TooManyBlocks}

-- the head of a block that begins at `at` in the file and has these bytes
abbrev pub head_in : ℕ → List ℕ → BlockHead
head_in at bytes = record {
  is_last = nat_le 128 (slice_index bytes 0);
  kind = slice_index bytes 0 % 128;
  first = at + 4;
  len = be24 (drop 1 bytes);
}

-- the data of a block
abbrev pub body_of : List ℕ → BlockHead → List ℕ
body_of file block = slice_range file block.first (block.first + block.len)

-- type 127 is forbidden, and the data ends within the file
abbrev pub is_sound : ℕ → BlockHead → Bool
is_sound end block = not (block.kind == 127) && nat_le (block.first + block.len) end

abbrev pub sound : ℕ → BlockHead → Result BlockHead FlacError
sound end block = if is_sound end block then Ok block else Err DamagedBlock

-- the block that begins at `at`
unfoldable pub block_at : List ℕ → ℕ → Result BlockHead FlacError
block_at file at = if nat_le (at + 4) (length file) then sound (length file) (head_in at (drop at file)) else Err DamagedBlock

-- the blocks from `at` up to the last one, of which at most so many are allowed
unfoldable pub blocks_from : ℕ → List ℕ → ℕ → Result (List BlockHead) FlacError
blocks_from zero file at = Err TooManyBlocks
blocks_from (suc more) file at =
    block_at file at >>= (λ block. if block.is_last then Ok (block ∷ []) else joined (block ∷ []) (blocks_from more file
    (block.first + block.len)))

-- the place behind a block, or 0
abbrev pub behind : Option BlockHead → ℕ
behind None = 0
behind (Some block) = block.first + block.len

-- the place behind the last of the blocks
abbrev pub behind_all : List BlockHead → ℕ
behind_all blocks = behind (slice_get blocks (length blocks - 1))

-- the data of a block ends before `end`
abbrev pub EndsBy : ℕ → BlockHead → Type 0
EndsBy end block = block.first + block.len ≤ end

-- a block that begins at `at` ends before `end`
pub record IsWithin (at end : ℕ) (block : BlockHead) : Type 0 where
  pub ahead : at < block.first
  pub ends : block.first + block.len ≤ end
