use Rattle.std.proofs.Common.{refl, map, ap, ◌∙◌}
use Rattle.std.specs.List.{flat_map}
use Rattle.command_text.proofs.Adding.{adds_same}
use Rattle.play_queue.specs.Queue.{QueueState}
use Rattle.machine_core.specs.EntryRows.{row_of_entry}
use Rattle.machine_core.specs.Finding.{entries_found, entry_row_lines, in_window}
use Rattle.machine_core.specs.State.{MachineState}
use Rattle.machine_core.proofs.Answering.{reads}
use Rattle.machine_core.proofs.Finding.Meanings.{entries_mean}
use Rattle.machine_core.proofs.Finding.Sorted.{seen_part_or_all}
use Rattle.machine_core.proofs.machine.Machine.find_entries.Goals as goal

pub returns : goal.returns
returns c =
    let m = c.args.self.now in
    let search = c.args.search.now in
    let songs = c.songs-songs.ensures ∙ ap (λ (n : MachineState). n.saved.songs) c.self.view_is in
    let entries = c.entries-entries.ensures.entries
    ∙ ap (λ (q : QueueState). q.entries) (c.queue.ensures ∙ ap (λ (n : MachineState). n.saved.queue) c.self.view_is) in
    reads _ _ m m _ c.args.work.now _ c.keep.new.self _ _ (entries_mean c.args.mask m search) refl c.len-mark.ensures refl refl
    (adds_same _ _ _ _ _ c.write_entry_rows-written.ensures (ap (flat_map (entry_row_lines c.args.mask)) (ap (map row_of_entry)
    (c.entries_in_window.ensures ∙ ap (in_window search.window) c.deref.ensures.value)
    ∙ seen_part_or_all row_of_entry search.window c.in_ok-ordered.ordered.items
    ∙ ap (in_window search.window) c.in_ok-ordered.ensures
    ∙ (λ i. entries_found search (songs i) (entries i))))) c.keep.ensures
