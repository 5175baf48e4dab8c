use Rattle.std.proofs.Common.{◌≡◌, ◌-◌, Ok, arith, sym, subst}
use Rattle.state_codec.specs.Fields.{number_within}
use Rattle.state_codec.specs.ReadingSaved.{rest_of_entry_at}
use Rattle.state_codec.proofs.EntryLaws.{early, later, rest_id, taken_gives}
use Rattle.state_codec.proofs.fields.Reader.entry.Goals as goal

pub returns-in-Err : goal.returns-in-Err
returns-in-Err c = early _ _ _ _ _ c.in-Err.e c.in-Err.ensures.value

pub with_entry-requires-clause-id_low : goal.with_entry-requires-clause-id_low
with_entry-requires-clause-id_low c =
    let same = rest_id _ _ _ _ _ c.in-Ok-rest_of_entry.ensures.entry in
    omega (arith, same, c.in-Ok.ensures.within)

pub with_entry-requires-clause-id_used : goal.with_entry-requires-clause-id_used
with_entry-requires-clause-id_used c =
    let same = rest_id _ _ _ _ _ c.in-Ok-rest_of_entry.ensures.entry in
    omega (arith, same, c.in-Ok.ensures.within, c.requires.next_id, c.requires.some)

pub returns-in-Ok-rest_of_entry : goal.returns-in-Ok-rest_of_entry
returns-in-Ok-rest_of_entry c =
    let same = rest_id _ _ _ _ _ c.in-Ok-rest_of_entry.ensures.entry in
    let read = subst (λ id. number_within 1 (c.args.next_id - 1) c.args.self.now.rest.now ≡ Ok (id, c.u32_within.new.self.rest.now))
    (sym same) c.in-Ok.ensures.value in
    let rest = subst (λ id. rest_of_entry_at c.args.songs.now c.args.version id c.u32_within.new.self.rest.now
    ≡ Ok (c.in-Ok-rest_of_entry.entry, c.rest_of_entry.new.self.rest.now)) (sym same) c.in-Ok-rest_of_entry.ensures.entry in
    taken_gives _ _ _ _ _ _ _ _ _ read rest (rw c.fault-at_id.ensures at c.with_entry.ensures)

pub returns-in-Err-rest_of_entry : goal.returns-in-Err-rest_of_entry
returns-in-Err-rest_of_entry c =
    rw (c.first_fault.ensures, c.fault-at_id.ensures) (later _ _ _ _ _ _ _ _ c.in-Ok.ensures.value c.in-Err-rest_of_entry.ensures.entry)
