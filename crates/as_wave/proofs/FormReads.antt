-- What stands for a file, by its form.
use Rattle.std.proofs.Common.{◌≡◌, ◌+◌, ◌*◌, ℕ, List, length, ap, ◌∙◌, sym, subst, Ok, Err}
use Rattle.std.specs.Prelude.{Result}
use Rattle.flac.specs.Reader.{samples_for}
use Rattle.song_files.specs.declared.source.SourceFault.{SourceFault}
use Rattle.flac.specs.declared.refusal.FlacError.{FlacError}
use Rattle.as_wave.specs.FlacLayout.{FlacFits}
use Rattle.as_wave.specs.FlacTail.{tail_len}
use Rattle.as_wave.specs.Form.{stood_for, FormFits}
use Rattle.as_wave.specs.Plan.{Fits}
use Rattle.as_wave.specs.declared.flac_layout.FlacForm.{FlacForm}
use Rattle.as_wave.specs.declared.form.Form.{Form}
use Rattle.as_wave.specs.declared.form.Form.TheVariants.{Pcm, Flac}
use Rattle.as_wave.specs.declared.plan.PcmPlan.{PcmPlan}
use Rattle.as_wave.proofs.FlacParts.{length-laid_out}
use Rattle.as_wave.proofs.PlanReads.{length-planned}

pub length-pcm : (form : Form) (plan : PcmPlan) (file : List ℕ) → form ≡ Pcm plan → FormFits form file
    → 44 + 2 * plan.count + plan.rest ≡ length (stood_for form file)
length-pcm form plan file same fits =
    let here : Fits plan file = subst (λ (f : Form). FormFits f file) same fits in
    sym (length-planned plan file here) ∙ ap (λ (f : Form). length (stood_for f file)) (sym same)

pub flac_fits : (form : Form) (flac : FlacForm) (file : List ℕ) → form ≡ Flac flac → FormFits form file → FlacFits flac file
flac_fits form flac file same fits = subst (λ (f : Form). FormFits f file) same fits

pub length-flac : (form : Form) (flac : FlacForm) (n : ℕ) (file : List ℕ) → form ≡ Flac flac → FormFits form file
    → n ≡ tail_len flac.layout.tail → 44 + 2 * flac.layout.count + n ≡ length (stood_for form file)
length-flac form flac n file same fits long =
    let here = flac_fits form flac file same fits in
    ap (λ k. 44 + 2 * flac.layout.count + k) long
    ∙ sym (length-laid_out flac.layout (samples_for flac.reader file) file here.picture)
    ∙ ap (λ (f : Form). length (stood_for f file)) (sym same)

-- no byte, whatever the errors are
abbrev count_of : {E : Type 0} → Result ℕ E → ℕ
count_of (Ok n) = n
count_of (Err e) = 0

pub ok_zero : {E F : Type 0} (n : ℕ) → ◌≡◌ {A = Result ℕ E} (Ok n) (Ok 0) → ◌≡◌ {A = Result ℕ F} (Ok n) (Ok 0)
ok_zero {E} {F} n same = let e : n ≡ 0 = ap count_of same in ap (λ (k : ℕ). the_ok k) e
  where
    the_ok : ℕ → Result ℕ F
    the_ok k = Ok k
