use Rattle.std.proofs.Common.{◌≡◌, true, false, eqb, sym, ◌∙◌, refl}
use Rattle.std.specs.Prelude.{is_some, position}
use Rattle.play_queue.specs.Builder.{has_id}
use Rattle.state_codec.proofs.ListLaws.{any_position}
use Rattle.state_codec.proofs.reading.queue.first_fault.Goals as goal

pub returns-then-is_some : goal.returns-then-is_some
returns-then-is_some c =
    let a = c.pos_of-2.ensures.found in
    let b = c.finish.ensures in
    let d = c.is_some.ensures in
    let t = c.if-is_some.true in
    let there : is_some (position (λ entry. eqb entry.id c.args.id) c.args.queue.entries) ≡ true = cc in
    let found : has_id c.args.queue.entries c.args.id ≡ true = sym (any_position (λ entry. eqb entry.id c.args.id) c.args.queue.entries)
    ∙ there in
    rw found refl

pub returns-else-is_some : goal.returns-else-is_some
returns-else-is_some c =
    let a = c.pos_of-2.ensures.found in
    let b = c.finish.ensures in
    let d = c.is_some.ensures in
    let t = c.if-is_some.false in
    let there : is_some (position (λ entry. eqb entry.id c.args.id) c.args.queue.entries) ≡ false = cc in
    let found : has_id c.args.queue.entries c.args.id ≡ false = sym (any_position (λ entry. eqb entry.id c.args.id) c.args.queue.entries)
    ∙ there in
    rw found refl
