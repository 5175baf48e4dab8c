-- Samples that have their width.
use Rattle.std.specs.Prelude.{◌≡◌, ℕ, true, List, ℤ}
use Rattle.std.specs.List.{All}
use Rattle.flac_frames.specs.Bits.{fits}

abbrev pub AllFit : ℕ → List ℤ → Type 0
AllFit width samples = All (λ sample. fits width sample ≡ true) samples
