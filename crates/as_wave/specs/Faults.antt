-- Faults of two kinds.
use Rattle.std.specs.Prelude.{◌≡◌, ℕ, ◌+◌, min}
use Rattle.std.proofs.Common.{ap, ◌∙◌}

-- those of a source and those of its frames, counted together up to 2^64-1
abbrev pub all_faults : ℕ → ℕ → ℕ
all_faults faults undecoded = min (faults + undecoded) 0xffff_ffff_ffff_ffff

pub none_yet : (a b : ℕ) → a ≡ 0 → b ≡ 0 → all_faults a b ≡ 0
none_yet a b none none' = ap (λ x. all_faults x b) none ∙ ap (all_faults 0) none'
