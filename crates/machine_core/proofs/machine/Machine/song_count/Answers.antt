use Rattle.std.proofs.Common.{◌≡◌, length, ap, sym, ◌∙◌, arith}
use Rattle.stored_lists.specs.Lists.{songs_or_none}
use Rattle.machine_core.specs.State.{MachineState}
use Rattle.machine_core.proofs.Lists.Going.{none_there}
use Rattle.machine_core.proofs.Lists.Lines.{no_more}
use Rattle.machine_core.proofs.machine.Machine.song_count.Goals as goal

pub overflow_cast-result : goal.overflow_cast-result
overflow_cast-result c =
    omega (
      arith,
      no_more c.lists-lists.result.now c.args.name.now c.in-Ok.songs.now c.in-Ok.ensures.songs,
      c.len-limits.ensures.within.few_entries,
      c.len.ensures.count,
    )

pub returns-in-Ok-clause-few : goal.returns-in-Ok-clause-few
returns-in-Ok-clause-few c =
    omega (
      arith,
      no_more c.lists-lists.result.now c.args.name.now c.in-Ok.songs.now c.in-Ok.ensures.songs,
      c.len-limits.ensures.within.few_entries,
      c.len.ensures.count,
    )

pub returns-in-Err-clause-count : goal.returns-in-Err-clause-count
returns-in-Err-clause-count c =
    let m = c.args.self.now in
    let lists : c.lists-lists.result.now ≡ m.saved.lists = c.lists-lists.ensures ∙ ap (λ (n : MachineState). n.saved.lists) c.self.view_is in
    sym (ap (λ all. length (songs_or_none all c.args.name.now)) (sym lists)
    ∙ ap length (none_there _ _ c.args.name.now c.in-Err.field-0 c.len-limits.ensures.within c.in-Err.ensures.answer))
