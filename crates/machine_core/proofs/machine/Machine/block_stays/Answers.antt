use Rattle.std.proofs.Common.{◌≡◌, ℕ, ◌<◌, ◌≤◌, ◌+◌, ◌-◌, ◌++◌, true, false, Some, None, drop, length, nat_lt, slice_range, take, ap, sym, ◌∙◌, arith}
use Rattle.std.proofs.lemmas.Bool.Decides.{nat_tests}
use Rattle.std.specs.Prelude.{if◌then◌else◌, max}
use Rattle.state_codec.specs.OpsLists.{same_uris}
use Rattle.stored_lists.proofs.Absent.{songs_or_none_present}
use Rattle.stored_lists.specs.Lists.{songs_of, songs_or_none}
use Rattle.stored_lists.specs.Songs.{Uris}
use Rattle.machine_core.specs.State.{MachineState}
use Rattle.machine_core.proofs.Lists.Going.{empty_stays, missing_there, well_named}
use Rattle.machine_core.proofs.Lists.Kept.{block_test, none_test}
use Rattle.machine_core.proofs.machine.Machine.block_stays.Goals.{else-block-to, then-block-to}
use Rattle.machine_core.proofs.machine.Machine.block_stays.Goals as goal

-- the place where the two runs meet
ahead : (middle start end to : ℕ) → start < to → middle ≡ end → middle ≡ (if nat_lt start to then end else start)
ahead middle start end to on is =
    let yes : nat_lt start to ≡ true = grind (arith, nat_tests, on) in is ∙ ap (λ b. if b then end else start) (sym yes)

back : (middle start end to : ℕ) → to ≤ start → middle ≡ start → middle ≡ (if nat_lt start to then end else start)
back middle start end to on is =
    let no : nat_lt start to ≡ false = grind (arith, nat_tests, on) in is ∙ ap (λ b. if b then end else start) (sym no)

pub returns-then-count-eq0 : goal.returns-then-count-eq0
returns-then-count-eq0 c = empty_stays c.args.name.now c.args.block c.args.to c.args.self.now.saved (omega arith)

pub returns-after-block-to : goal.returns-after-block-to
returns-after-block-to c =
    let m = c.args.self.now in
    let name = c.args.name.now in
    let block = c.args.block in
    let to = c.args.to in
    let songs = c.in-Ok.songs.now in
    let low = c.min-low.result in
    let high = c.max-high.result in
    let lists : c.lists.result.now ≡ m.saved.lists = c.lists.ensures ∙ ap (λ (n : MachineState). n.saved.lists) c.self.view_is in
    let found : songs_of m.saved.lists name ≡ Some songs = ap (λ all. songs_of all name) (sym lists) ∙ c.in-Ok.ensures.songs in
    let same : length (songs_or_none m.saved.lists name) ≡ length songs =
    ap length (songs_or_none_present m.saved.lists name songs found) in
    let middle : c.if-block-to.middle ≡ (if nat_lt block.start to then block.end else block.start) =
    elim c.if-block-to.branch [
      | then-block-to w ↦ ahead c.if-block-to.middle block.start block.end to w.if-block-to.true w.middle-is
      | else-block-to w ↦ back c.if-block-to.middle block.start block.end to w.if-block-to.false w.middle-is
    ] in
    let at = c.if-block-to.middle - low in
    c.stay_turned.ensures
    ∙ ap (λ (all : Uris). let run = slice_range all low high in same_uris (drop at run ++ take at run) run) c.as_slice.ensures
    ∙ block_test name block to songs m.saved (well_named name name c.requires.good) found (omega arith) (omega (arith, same))
    (omega (arith, same)) low high at c.min-low.ensures (c.max-high.ensures ∙ ap (λ k. max block.end (to + k)) c.count-in-Ok.ensures)
    (ap (λ k. k - low) middle)

pub returns-in-Err : goal.returns-in-Err
returns-in-Err c =
    let m = c.args.self.now in
    let name = c.args.name.now in
    let lists : c.lists.result.now ≡ m.saved.lists = c.lists.ensures ∙ ap (λ (n : MachineState). n.saved.lists) c.self.view_is in
    let missing : songs_of m.saved.lists name ≡ None =
    ap (λ all. songs_of all name) (sym lists)
    ∙ missing_there _ _ name c.in-Err.field-0 (well_named name name c.requires.good) c.in-Err.ensures.answer in
    none_test name c.args.block c.args.to m.saved missing c.requires.block
