use Rattle.std.proofs.Common.{◌≡◌, Ok, Err, length, ap, sym, subst, ◌∙◌}
use Rattle.state_codec.specs.Steps.{◌>>=◌}
use Rattle.machine_core.specs.ListMoves.{moves_songs}
use Rattle.machine_core.specs.Lists.{list_name, songs_named}
use Rattle.machine_core.specs.Named.{IsNotFound}
use Rattle.machine_core.specs.Spans.{span_in}
use Rattle.machine_core.specs.State.{MachineState}
use Rattle.machine_core.specs.declared.work.Failure.TheVariants.{Refused}
use Rattle.machine_core.proofs.Answering.{also}
use Rattle.machine_core.proofs.Lists.Going.{span_end}
use Rattle.machine_core.proofs.Lists.Names.{name_is, named_well, not_both}
use Rattle.machine_core.proofs.LookUps.{fails, found, not_found}
use Rattle.machine_core.proofs.machine.Machine.move_range_in_list.Goals as goal

pub returns-in_err-songs : goal.returns-in_err-songs
returns-in_err-songs c =
    let m = c.args.self.now in
    let name = c.args.name.now in
    let lists : c.lists.result.now ≡ m.saved.lists = c.lists.ensures ∙ ap (λ (n : MachineState). n.saved.lists) c.self.view_is in
    not_found (songs_named m.saved.lists name)
    (λ songs. span_in c.args.range (length songs) >>= λ block. moves_songs name block c.args.to (length songs) m) m c.args.work.now
    c.in_err-songs.field-0.0 c.from_residual.result
    (subst (λ all. IsNotFound (songs_named all name) c.in_err-songs.field-0.0) lists c.in_err-songs.ensures.refused)
    c.from_residual.ensures.1

pub returns-in_err-block : goal.returns-in_err-block
returns-in_err-block c =
    let m = c.args.self.now in
    let name = c.args.name.now in
    let range = c.args.range in
    let songs = c.in_ok-songs.songs.now in
    let lists : c.lists.result.now ≡ m.saved.lists = c.lists.ensures ∙ ap (λ (n : MachineState). n.saved.lists) c.self.view_is in
    let is : songs_named m.saved.lists name ≡ Ok songs = ap (λ all. songs_named all name) (sym lists) ∙ c.in_ok-songs.ensures.songs in
    let past : span_in range (length songs) ≡ Err c.in_err-block.field-0.0 =
    sym (c.in_err-block.ensures ∙ ap (span_in range) c.len-length.ensures.count) in
    also _ _ _ _ _ _ _
    (found (songs_named m.saved.lists name)
    (λ all. span_in range (length all) >>= λ block. moves_songs name block c.args.to (length all) m) songs is)
    (not_found (span_in range (length songs)) (λ block. moves_songs name block c.args.to (length songs) m) m c.args.work.now
    (Refused c.in_err-block.field-0.0) c.from_residual-in_err-block.result past c.from_residual-in_err-block.ensures.1)

pub returns-in_err-name : goal.returns-in_err-name
returns-in_err-name c =
    let m = c.args.self.now in
    let name = c.args.name.now in
    let lists : c.lists.result.now ≡ m.saved.lists = c.lists.ensures ∙ ap (λ (n : MachineState). n.saved.lists) c.self.view_is in
    let is : songs_named m.saved.lists name ≡ Ok c.in_ok-songs.songs.now =
    ap (λ all. songs_named all name) (sym lists) ∙ c.in_ok-songs.ensures.songs in
    fails (list_name name) _ m c.args.work.now c.in_err-name.field-0.0 c.from_residual-in_err-name.result c.in_err-name.ensures
    (λ refusal e. absurd (not_both (list_name name) name refusal (named_well m.saved.lists name c.in_ok-songs.songs.now is) e))
    c.from_residual-in_err-name.ensures.1

pub returns : goal.returns
returns c =
    let m = c.args.self.now in
    let name = c.args.name.now in
    let range = c.args.range in
    let songs = c.in_ok-songs.songs.now in
    let block = c.in_ok-block.block in
    let lists : c.lists.result.now ≡ m.saved.lists = c.lists.ensures ∙ ap (λ (n : MachineState). n.saved.lists) c.self.view_is in
    let is : songs_named m.saved.lists name ≡ Ok songs = ap (λ all. songs_named all name) (sym lists) ∙ c.in_ok-songs.ensures.songs in
    let within : span_in range (length songs) ≡ Ok block = sym (c.in_ok-block.ensures ∙ ap (span_in range) c.len-length.ensures.count) in
    also _ _ _ _ _ _ _
    (found (songs_named m.saved.lists name)
    (λ all. span_in range (length all) >>= λ part. moves_songs name part c.args.to (length all) m) songs is
    ∙ found (span_in range (length songs)) (λ part. moves_songs name part c.args.to (length songs) m) block within
    ∙ (λ i. moves_songs (sym (name_is name c.in_ok-name.name c.in_ok-name.ensures) i) block c.args.to (sym c.len-length.ensures.count i) m))
    c.move_block_in_list.ensures

pub move_block_in_list-requires-clause-within : goal.move_block_in_list-requires-clause-within
move_block_in_list-requires-clause-within c =
    span_end c.args.range c.len-length.result c.in_ok-block.block (sym c.in_ok-block.ensures)
