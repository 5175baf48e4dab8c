-- The part that a head tells of.
use Rattle.std.specs.Prelude.{ℕ, ◌+◌, ◌≤◌, List, map, slice_range}
use Rattle.wave_pcm.specs.Parts.{Part}
use Rattle.wave_pcm.specs.declared.info.ChunkPlace.{ChunkPlace}
use Rattle.wave_pcm.specs.declared.parts.PartHead.{PartHead}

-- its data is the file's bytes from `first` on
abbrev pub part_at : List ℕ → PartHead → Part
part_at file head = record { kind = head.kind; first = head.first; body = slice_range file head.first (head.first + head.len) }

abbrev pub parts_at : List ℕ → List PartHead → List Part
parts_at file heads = map (part_at file) heads

-- the data stands before `end`
abbrev pub EndsBy : ℕ → PartHead → Type 0
EndsBy end head = head.first + head.len ≤ end

abbrev pub PlaceEndsBy : ℕ → ChunkPlace → Type 0
PlaceEndsBy end place = place.first + place.len ≤ end
