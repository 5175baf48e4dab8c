use Rattle.std.proofs.Common.{◌∙◌, sym, ap}
use Rattle.std.specs.Prelude.{string_bytes}
use Rattle.id3_tags.proofs.Labels.{value_more, values_all}
use Rattle.id3_tags.proofs.texts.Texts.add_values.Goals as goal

pub loop-value-preserved : goal.loop-value-preserved
loop-value-preserved c = (
  c.in_ok-add_value.ensures.few,
  value_more string_bytes c.args.values.now c.loop-value.value-index c.value-item.result _ _ _ _ _ _ c.as_str.result.now
      c.loop-value-test.true (ap string_bytes (sym c.value-item.is) ∙ sym c.as_str.ensures.value) c.in_ok-add_value.ensures.added
      c.loop-value.invariant.1,
)

pub returns-clause-added : goal.returns-clause-added
returns-clause-added c = values_all string_bytes c.args.values.now c.loop-value.value-index _ _ _ _ _ c.loop-value-test.false
    c.loop-value.invariant.0 c.loop-value.invariant.1
