use Rattle.std.proofs.Common.{◌≡◌, ◌++◌, map, take, drop}
use Rattle.wave_pcm.specs.Pcm.{at_volume}
use Rattle.wave_pcm.proofs.volume.scale.Given as goal

-- The samples so far are scaled, and the others are as they were.
abbrev pub invariant-loop-sample : goal.invariant-loop-sample
invariant-loop-sample l = l.samples ≡ map (at_volume l.volume) (take l.sample-index l.initial.samples) ++ drop l.sample-index
    l.initial.samples
