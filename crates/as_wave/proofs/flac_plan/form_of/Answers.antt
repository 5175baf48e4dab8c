use Rattle.std.proofs.Common.{◌≡◌, ◌+◌, ◌*◌, ◌≤◌, ◌∙◌, length, sym, ap, subst, arith}
use Rattle.flac.specs.Frames.{file_samples}
use Rattle.flac.specs.Reader.{samples_for, channels_of}
use Rattle.as_wave.specs.FlacTag.{tag_of}
use Rattle.as_wave.specs.FlacWave.{tag_chunks}
use Rattle.as_wave.specs.declared.flac_tail.FlacTail.{FlacTail}
use Rattle.as_wave.specs.declared.format.SampleFormat.{SampleFormat}
use Rattle.as_wave.proofs.FlacPlans.{form_made, no_form, even_tags, told_limits}
use Rattle.as_wave.proofs.flac_plan.form_of.Goals as goal

pub returns-in_default-clause-form : goal.returns-in_default-clause-form
returns-in_default-clause-form c = λ file all.
    let within : c.in_ok-tail.tail.picture + c.in_ok-tail.tail.picture_len ≤ length file = omega (arith, c.in_ok-tail.ensures.within, all) in
    no_form file c.args.head.now (rw c.in_default.is at (c.layout_for.ensures.layout file (file_samples file c.args.head.now) (tag_chunks (tag_of
    file c.args.head.now)) within (c.in_ok-tail.ensures.tail file all) (even_tags (tag_of file c.args.head.now))))

pub returns-in-Ok-clause-form : goal.returns-in-Ok-clause-form
returns-in-Ok-clause-form c = λ file all.
    let within : c.in_ok-tail.tail.picture + c.in_ok-tail.tail.picture_len ≤ length file = omega (arith, c.in_ok-tail.ensures.within, all) in
    form_made file c.args.head.now c.in-Some.layout (samples_for c.in-Ok.reader file) (sym c.if-not-is_told.ensures) (rw c.in-Some.is at
    (c.layout_for.ensures.layout file (file_samples file c.args.head.now) (tag_chunks (tag_of file c.args.head.now)) within
    (c.in_ok-tail.ensures.tail file all) (even_tags (tag_of file c.args.head.now)))) (c.in-Ok.ensures.samples file)

pub returns-in-Ok-clause-fits : goal.returns-in-Ok-clause-fits
returns-in-Ok-clause-fits c = λ file all.
    let within : c.in_ok-tail.tail.picture + c.in_ok-tail.tail.picture_len ≤ length file = omega (arith, c.in_ok-tail.ensures.within, all) in
    let s = rw c.in-Some.is at c.layout_for.ensures.same in
    let stream = c.in-Ok.ensures.stream in
    let l = told_limits c.args.head.now.info (sym c.if-not-is_told.ensures) in
    record {
      picture = subst (λ (t : FlacTail). t.picture + t.picture_len ≤ length file) (sym s.0) within;
      knows = c.in-Ok.ensures.knows file;
      channels = stream.0 ∙ sym (ap (λ (f : SampleFormat). f.channels) s.2);
      counted = s.1 ∙ ap (λ k. k * c.args.head.now.info.samples) (sym stream.0) ∙ ap (λ k. channels_of c.in-Ok.reader * k) (sym stream.1);
      some = omega (arith, l.some_samples, stream.1);
    }
