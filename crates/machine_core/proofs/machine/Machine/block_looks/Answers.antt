use Rattle.std.proofs.Common.{◌≡◌, ◌+◌, ◌≤◌, Ok, length, ap, sym, ◌∙◌, arith}
use Rattle.std.proofs.lemmas.Nat.{mul-le}
use Rattle.machine_core.specs.Spans.{span_in}
use Rattle.machine_core.proofs.Lists.Going.{span_end}
use Rattle.machine_core.proofs.Lists.Lines.{no_more}
use Rattle.machine_core.proofs.machine.Machine.block_looks.Goals as goal

pub overflow_cast-len : goal.overflow_cast-len
overflow_cast-len c =
    omega (
      arith,
      no_more c.lists-lists.result.now c.args.name.now c.in-Ok.songs.now c.in-Ok.ensures.songs,
      c.len-limits.ensures.within.few_entries,
      c.len.ensures.count,
    )

pub overflow_mul-result : goal.overflow_mul-result
overflow_mul-result c =
    let songs = c.in-Ok.songs.now in
    let block = c.in-Ok-span_in.block in
    let few : length songs ≤ 65536 =
    omega (
      arith,
      no_more c.lists-lists.result.now c.args.name.now songs c.in-Ok.ensures.songs,
      c.len-limits.ensures.within.few_entries,
    ) in
    let within : span_in c.args.range (length songs) ≡ Ok block = sym (c.in-Ok-span_in.ensures ∙ ap (span_in c.args.range) c.len.ensures.count) in
    omega (
      arith,
      mul-le (c.from.result + 1) (c.gap_of.result + 1) 65537 4294967296
          (omega (arith, c.count.ensures, span_end c.args.range (length songs) block within, few)) (omega (arith, c.gap_of.ensures.few)),
    )
