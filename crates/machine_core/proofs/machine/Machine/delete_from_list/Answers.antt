use Rattle.std.proofs.Common.{◌≡◌, [], Ok, Err, length, ap, sym, subst, ◌∙◌}
use Rattle.state_codec.specs.Steps.{◌>>=◌}
use Rattle.state_codec.specs.declared.op.Op.TheVariants.{List as OfLists}
use Rattle.state_codec.specs.declared.op.list_op.ListOp.TheVariants.{Remove}
use Rattle.machine_core.specs.Lists.{list_name, songs_named, lists_meaning}
use Rattle.machine_core.specs.Meaning.{edits}
use Rattle.machine_core.specs.Named.{IsNotFound}
use Rattle.machine_core.specs.Spans.{span_in}
use Rattle.machine_core.specs.State.{MachineState}
use Rattle.machine_core.specs.declared.work.Failure.TheVariants.{Refused}
use Rattle.machine_core.proofs.Answering.{also}
use Rattle.machine_core.proofs.Lists.Names.{name_is, named_well, not_both}
use Rattle.machine_core.proofs.LookUps.{fails, found, not_found}
use Rattle.machine_core.proofs.machine.Machine.delete_from_list.Goals as goal

pub returns-in_err-songs : goal.returns-in_err-songs
unfolding lists_meaning
returns-in_err-songs c =
    let m = c.args.self.now in
    let name = c.args.name.now in
    let lists : c.lists.result.now ≡ m.saved.lists = c.lists.ensures ∙ ap (λ (n : MachineState). n.saved.lists) c.self.view_is in
    not_found (songs_named m.saved.lists name)
    (λ songs. span_in c.args.range (length songs) >>= λ span. edits (OfLists (Remove name span.start span.end)) [] m) m c.args.work.now
    c.in_err-songs.field-0.0 c.from_residual.result
    (subst (λ all. IsNotFound (songs_named all name) c.in_err-songs.field-0.0) lists c.in_err-songs.ensures.refused)
    c.from_residual.ensures.1

pub returns-in_err-span : goal.returns-in_err-span
unfolding lists_meaning
returns-in_err-span c =
    let m = c.args.self.now in
    let name = c.args.name.now in
    let range = c.args.range in
    let songs = c.in_ok-songs.songs.now in
    let lists : c.lists.result.now ≡ m.saved.lists = c.lists.ensures ∙ ap (λ (n : MachineState). n.saved.lists) c.self.view_is in
    let is : songs_named m.saved.lists name ≡ Ok songs = ap (λ all. songs_named all name) (sym lists) ∙ c.in_ok-songs.ensures.songs in
    let past : span_in range (length songs) ≡ Err c.in_err-span.field-0.0 =
    sym (c.in_err-span.ensures ∙ ap (span_in range) c.len.ensures.count) in
    also _ _ _ _ _ _ _
    (found (songs_named m.saved.lists name)
    (λ all. span_in range (length all) >>= λ span. edits (OfLists (Remove name span.start span.end)) [] m) songs is)
    (not_found (span_in range (length songs)) (λ span. edits (OfLists (Remove name span.start span.end)) [] m) m c.args.work.now
    (Refused c.in_err-span.field-0.0) c.from_residual-in_err-span.result past c.from_residual-in_err-span.ensures.1)

pub returns-in_err-name : goal.returns-in_err-name
returns-in_err-name c =
    let m = c.args.self.now in
    let name = c.args.name.now in
    let lists : c.lists.result.now ≡ m.saved.lists = c.lists.ensures ∙ ap (λ (n : MachineState). n.saved.lists) c.self.view_is in
    let is : songs_named m.saved.lists name ≡ Ok c.in_ok-songs.songs.now =
    ap (λ all. songs_named all name) (sym lists) ∙ c.in_ok-songs.ensures.songs in
    fails (list_name name) _ m c.args.work.now c.in_err-name.field-0.0 c.from_residual-in_err-name.result c.in_err-name.ensures
    (λ refusal e. absurd (not_both (list_name name) name refusal (named_well m.saved.lists name c.in_ok-songs.songs.now is) e))
    c.from_residual-in_err-name.ensures.1

pub returns : goal.returns
unfolding lists_meaning
returns c =
    let m = c.args.self.now in
    let name = c.args.name.now in
    let range = c.args.range in
    let songs = c.in_ok-songs.songs.now in
    let span = c.in_ok-span.span in
    let lists : c.lists.result.now ≡ m.saved.lists = c.lists.ensures ∙ ap (λ (n : MachineState). n.saved.lists) c.self.view_is in
    let is : songs_named m.saved.lists name ≡ Ok songs = ap (λ all. songs_named all name) (sym lists) ∙ c.in_ok-songs.ensures.songs in
    let within : span_in range (length songs) ≡ Ok span = sym (c.in_ok-span.ensures ∙ ap (span_in range) c.len.ensures.count) in
    also _ _ _ _ _ _ _
    (found (songs_named m.saved.lists name)
    (λ all. span_in range (length all) >>= λ part. edits (OfLists (Remove name part.start part.end)) [] m) songs is
    ∙ found (span_in range (length songs)) (λ part. edits (OfLists (Remove name part.start part.end)) [] m) span within
    ∙ ap (λ text. edits (OfLists (Remove text span.start span.end)) [] m) (sym (name_is name c.in_ok-name.name c.in_ok-name.ensures)))
    c.edit.ensures.performs
