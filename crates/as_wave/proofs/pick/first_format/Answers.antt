use Rattle.std.proofs.Common.{◌≡◌, sym, arith, length, subst, IfOk}
use Rattle.std.specs.Prelude.{Option}
use Rattle.as_wave.specs.declared.format.SampleFormat.{SampleFormat}
use Rattle.as_wave.proofs.Picks.{format_found, data_before, no_key}
use Rattle.as_wave.proofs.pick.first_format.Goals as goal

pub read_format-requires : goal.read_format-requires
read_format-requires g c = omega (arith, (c.in-Some.ensures.within 18446744073709551615 c.requires).within)

pub returns-in-Some-clause-format : goal.returns-in-Some-clause-format
returns-in-Some-clause-format g c = λ told each.
    let P : Option SampleFormat → Type 0 = λ x. IfOk c.read_format.result (λ f. f ≡ x) in
    subst P (sym (format_found (g.S.Source.bytes c.args.source.now) c.args.heads.now c.in-Some.head c.in-Some.ensures.found (sym
    c.if-is_format.ensures)))
    (c.read_format.ensures.format told (c.in-Some.ensures.within (length (g.S.Source.bytes c.args.source.now)) each).within)

pub returns-in-Some-clause-fault : goal.returns-in-Some-clause-fault
returns-in-Some-clause-fault g c = λ told each.
    c.read_format.ensures.fault told (c.in-Some.ensures.within (length (g.S.Source.bytes c.args.source.now)) each).within

pub returns-in_default-clause-format : goal.returns-in_default-clause-format
returns-in_default-clause-format g c = λ told each.
    sym (data_before (g.S.Source.bytes c.args.source.now) c.args.heads.now c.in-Some.head c.in-Some.ensures.found (sym
    c.if-is_format.ensures))

pub returns-in_default-2-clause-format : goal.returns-in_default-2-clause-format
returns-in_default-2-clause-format g c = λ told each.
    sym (no_key (g.S.Source.bytes c.args.source.now) c.args.heads.now (rw c.in_default.is at c.first_key.ensures.found))
