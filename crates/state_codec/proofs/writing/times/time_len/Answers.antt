use Rattle.std.proofs.Common.{List, ℕ, length, ap, arith}
use Rattle.state_codec.specs.SpellingFields.{text_bytes}
use Rattle.state_codec.proofs.TimeFields.{name_short, time_len}
use Rattle.state_codec.proofs.writing.times.time_len.Goals as goal

pub text_len-requires : goal.text_len-requires
text_len-requires c = omega (arith, name_short c.args.time.now.name c.as_str.ensures.form, ap length c.as_str.ensures.text)

pub returns-clause-len : goal.returns-clause-len
returns-clause-len c =
    omega (
      arith,
      time_len c.args.time.now,
      c.text_len.ensures,
      ap (λ (text : List ℕ). length (text_bytes text)) c.as_str.ensures.text,
    )

pub returns-clause-within : goal.returns-clause-within
returns-clause-within c =
    omega (
      arith,
      name_short c.args.time.now.name c.as_str.ensures.form,
      c.text_len.ensures,
      ap (λ (text : List ℕ). length (text_bytes text)) c.as_str.ensures.text,
    )
