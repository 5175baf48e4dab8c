-- How the WAVE file that a FLAC file stands for is made of that file.
use Rattle.std.specs.Prelude.{◌≡◌, ℕ, ◌+◌, ◌*◌, ◌≤◌, ◌<◌, List, ◌++◌, length, replicate, slice_range, ℤ}
use Rattle.flac.specs.Reader.{IsReaderOf, samples_for, channels_of, total_of}
use Rattle.flac.specs.declared.reader.FlacReader.{FlacReader}
use Rattle.as_wave.specs.FlacSamples.{at_bits}
use Rattle.as_wave.specs.FlacTail.{tail_len, tail_bytes}
use Rattle.as_wave.specs.Plan.{wave_head}
use Rattle.as_wave.specs.Samples.{bytes_of}
use Rattle.as_wave.specs.declared.flac_layout.FlacLayout.{FlacLayout}
use Rattle.as_wave.specs.declared.flac_layout.FlacForm.{FlacForm}

-- the head, the samples and what stands behind them
abbrev pub flac_laid_out : FlacLayout → List ℤ → List ℕ → List ℕ
flac_laid_out layout samples file =
    wave_head layout.format (2 * layout.count) (tail_len layout.tail) ++ (bytes_of (at_bits layout.bits layout.count samples)
    ++ tail_bytes layout.tail file)

abbrev pub flac_planned : FlacForm → List ℕ → List ℕ
flac_planned form file = flac_laid_out form.layout (samples_for form.reader file) file

-- the picture stands in the file, and the reader reads as many samples of it as the layout has
pub record FlacFits (form : FlacForm) (file : List ℕ) : Type 0 where
  pub picture : form.layout.tail.picture + form.layout.tail.picture_len ≤ length file
  pub knows : IsReaderOf file form.reader
  pub channels : channels_of form.reader ≡ form.layout.format.channels
  pub counted : form.layout.count ≡ channels_of form.reader * total_of form.reader
  pub some : 0 < total_of form.reader

abbrev pub form_with : FlacLayout → FlacReader → FlacForm
form_with layout reader = record { layout = layout; reader = reader }
