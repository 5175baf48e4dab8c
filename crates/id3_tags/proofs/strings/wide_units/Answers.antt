use Rattle.std.proofs.Common.{◌+◌, ◌*◌, ◌<◌, length, arith}
use Rattle.std.proofs.lemmas.Grind.{common_steps}
use Rattle.id3_tags.proofs.Pushes.{push_more, push_end}
use Rattle.id3_tags.proofs.Units.{unit_cut, units_end}
use Rattle.id3_tags.proofs.strings.wide_units.Goals as goal

pub units-preserved : goal.units-preserved
units-preserved c =
    let within : c.units.at + 1 < length c.args.bytes.now = omega arith in (
      omega arith,
      grind (arith, common_steps),
      push_more _ _ _ _ _ _ c.in_ok-push.ensures.items
          (unit_cut c.args.bytes.now c.units.at (c.from.result * 256 + c.from-in-units.result) within (grind (arith, common_steps)))
          c.units.invariant.2,
    )

pub returns-clause-units : goal.returns-clause-units
returns-clause-units c = push_end _ _ _ (units_end c.args.bytes.now c.units.at (omega arith)) c.units.invariant.2
