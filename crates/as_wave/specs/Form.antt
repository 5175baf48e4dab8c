-- What stands for a file by its form.
use Rattle.std.specs.Prelude.{List, ℕ}
use Rattle.as_wave.specs.FlacLayout.{flac_planned, FlacFits}
use Rattle.as_wave.specs.Plan.{planned, Fits}
use Rattle.as_wave.specs.declared.form.Form.{Form}
use Rattle.as_wave.specs.declared.form.Form.TheVariants.{Plain, Pcm, Flac}

abbrev pub stood_for : Form → List ℕ → List ℕ
stood_for Plain file = file
stood_for (Pcm plan) file = planned plan file
stood_for (Flac form) file = flac_planned form file

-- all that it takes from the file stands there
abbrev pub FormFits : Form → List ℕ → Type 0
FormFits Plain file = Unit {0}
FormFits (Pcm plan) file = Fits plan file
FormFits (Flac form) file = FlacFits form file

-- no read of it takes memory
abbrev pub IsReady : Form → Type 0
IsReady Plain = Unit {0}
IsReady (Pcm plan) = Unit {0}
IsReady (Flac form) = ⊥
