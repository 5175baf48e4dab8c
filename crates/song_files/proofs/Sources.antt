-- What a source keeps over several reads.
use Rattle.std.proofs.Common.{◌≡◌, ℕ, ◌≤◌, List, arith, ◌∙◌}
use Rattle.song_files.specs.Source.{Keeps, Grows}

pub keeps_then : {S : Type 0} {bytes : S → List ℕ} {honest : S → Type 0} {faults : S → ℕ} {steady : S → Type 0} {a b c : S}
    → Keeps bytes honest faults steady a b → Keeps bytes honest faults steady b c → Keeps bytes honest faults steady a c
keeps_then first next = record {
  is_honest = next.is_honest;
  same = next.same
      ∙ first.same;
  counted = omega (arith, first.counted, next.counted);
  stays = λ told. next.stays (first.stays told);
}

-- a source that has no fault before and after has none between
pub grows_not : (a b : ℕ) → Grows a b → b ≡ 0 → ⊥
grows_not a b more none = omega arith

-- a fault after other reads
pub grows_after : (a b c : ℕ) → a ≤ b → Grows b c → Grows a c
grows_after a b c le more = omega arith
