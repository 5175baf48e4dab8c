use Rattle.std.proofs.Common.{◌≡◌, ℕ, List, [], Result, Ok, ap, sym, subst, ◌∙◌}
use Rattle.command_text.specs.declared.refusal.CommandRefusal.{CommandRefusal}
use Rattle.play_queue.specs.Queue.{QueueState}
use Rattle.state_codec.specs.OpsLists.{uris_of}
use Rattle.state_codec.specs.declared.op.Op.TheVariants.{List as OfLists}
use Rattle.state_codec.specs.declared.op.list_op.ListOp.TheVariants.{Add}
use Rattle.machine_core.specs.Lists.{list_name, songs_named, queue_rows, lists_meaning}
use Rattle.machine_core.specs.Meaning.{edits}
use Rattle.machine_core.specs.Named.{IsNotFound, numbers_of}
use Rattle.machine_core.specs.State.{MachineState}
use Rattle.machine_core.proofs.Answering.{also}
use Rattle.machine_core.proofs.Lists.Names.{name_is, named_well, not_both}
use Rattle.machine_core.proofs.LookUps.{fails, found, not_found}
use Rattle.machine_core.proofs.machine.Machine.append_to_list.Goals as goal

abbrev found_rows : List ℕ → Result (List ℕ) CommandRefusal
found_rows rows = Ok rows

pub returns-in_err-songs_named : goal.returns-in_err-songs_named
unfolding lists_meaning
returns-in_err-songs_named c =
    let m = c.args.self.now in
    let name = c.args.name.now in
    let lists : c.lists.result.now ≡ m.saved.lists = c.lists.ensures ∙ ap (λ (n : MachineState). n.saved.lists) c.self.view_is in
    not_found (songs_named m.saved.lists name) (λ songs. edits (OfLists (Add name (queue_rows m))) [] m) m c.args.work.now
    c.in_err-songs_named.field-0.0 c.from_residual.result
    (subst (λ all. IsNotFound (songs_named all name) c.in_err-songs_named.field-0.0) lists c.in_err-songs_named.ensures.refused)
    c.from_residual.ensures.1

pub returns-in_err-rows : goal.returns-in_err-rows
returns-in_err-rows c =
    let m = c.args.self.now in
    fails (found_rows (numbers_of c.songs.result.now (uris_of c.entries-entries.result.now))) _ m c.args.work.now
    c.in_err-rows.field-0.0 c.from_residual-in_err-rows.result c.in_err-rows.ensures (λ refusal e. absurd (cc))
    c.from_residual-in_err-rows.ensures.1

pub returns-in_err-name : goal.returns-in_err-name
returns-in_err-name c =
    let m = c.args.self.now in
    let name = c.args.name.now in
    let lists : c.lists.result.now ≡ m.saved.lists = c.lists.ensures ∙ ap (λ (n : MachineState). n.saved.lists) c.self.view_is in
    let is : songs_named m.saved.lists name ≡ Ok c.in_ok-songs_named.field-0.now =
    ap (λ all. songs_named all name) (sym lists) ∙ c.in_ok-songs_named.ensures.songs in
    fails (list_name name) _ m c.args.work.now c.in_err-name.field-0.0 c.from_residual-in_err-name.result c.in_err-name.ensures
    (λ refusal e. absurd (not_both (list_name name) name refusal (named_well m.saved.lists name c.in_ok-songs_named.field-0.now is) e))
    c.from_residual-in_err-name.ensures.1

pub returns : goal.returns
unfolding lists_meaning
returns c =
    let m = c.args.self.now in
    let name = c.args.name.now in
    let lists : c.lists.result.now ≡ m.saved.lists = c.lists.ensures ∙ ap (λ (n : MachineState). n.saved.lists) c.self.view_is in
    let is : songs_named m.saved.lists name ≡ Ok c.in_ok-songs_named.field-0.now =
    ap (λ all. songs_named all name) (sym lists) ∙ c.in_ok-songs_named.ensures.songs in
    let songs : c.songs.result.now ≡ m.saved.songs = c.songs.ensures ∙ ap (λ (n : MachineState). n.saved.songs) c.self.view_is in
    let entries : c.entries-entries.result.now ≡ m.saved.queue.entries =
    c.entries-entries.ensures.entries
    ∙ ap (λ (q : QueueState). q.entries) (c.queue.ensures ∙ ap (λ (n : MachineState). n.saved.queue) c.self.view_is) in
    let rows : found_rows (queue_rows m) ≡ found_rows c.in_ok-rows.rows =
    (λ i. found_rows (numbers_of (sym songs i) (uris_of (sym entries i)))) ∙ c.in_ok-rows.ensures in
    also _ _ _ _ _ _ _
    (found (songs_named m.saved.lists name) (λ songs. edits (OfLists (Add name (queue_rows m))) [] m) c.in_ok-songs_named.field-0.now is
    ∙ found (found_rows (queue_rows m)) (λ rows. edits (OfLists (Add name rows)) [] m) c.in_ok-rows.rows rows
    ∙ ap (λ text. edits (OfLists (Add text c.in_ok-rows.rows)) [] m) (sym (name_is name c.in_ok-name.name c.in_ok-name.ensures)))
    c.edit.ensures.performs
