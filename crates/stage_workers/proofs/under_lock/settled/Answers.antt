use Rattle.std.proofs.Common.{◌≡◌, ap, ◌∙◌, arith}
use Rattle.stage_workers.specs.declared.kind.Kind.{Kind}
use Rattle.stage_workers.specs.declared.kind.Kind.TheVariants.{Clients, Player, Scan}
use Rattle.stage_workers.specs.LockState.{LockState}
use Rattle.stage_workers.specs.Books.{total_of}
use Rattle.stage_workers.specs.Settling.{back_of, full_of, shares_of}
use Rattle.stage_workers.proofs.SettlingLaws.{kinds_add_up, short_is_reason}
use Rattle.stage_workers.proofs.under_lock.settled.Goals as goal

pub returns-in-Some-clause-reason : goal.returns-in-Some-clause-reason
returns-in-Some-clause-reason g c =
    let back : (kind : Kind) → back_of kind c.take_all.new.self ≡ shares_of kind c.args.passes.items =
    λ kind. omega (arith, c.take_all.ensures.back kind, c.new-returned.ensures.back kind) in
    let full : (kind : Kind) → full_of kind c.take_all.new.self ≡ total_of kind c.args.locked.books =
    λ kind. c.take_all.ensures.full kind ∙ c.new-returned.ensures.full kind ∙ ap (λ (l : LockState _). total_of kind l.books) c.locked.view_is in
    (short_is_reason c.args.locked.live c.args.locked.books c.args.passes.items c.args.receipts.now c.take_all.new.self back full c.in-Some.kind c.in-Some.ensures)

pub returns-clause-all : goal.returns-clause-all
returns-clause-all g c =
    let of_kind : (kind : Kind) → shares_of kind c.args.passes.items ≡ total_of kind c.locked.inside.books =
    λ kind. omega (arith, c.take_all.ensures.back kind, c.new-returned.ensures.back kind, c.take_all.ensures.full kind, c.new-returned.ensures.full kind, c.in_default.ensures kind) in
    rw (← c.locked.view_is) (omega (arith, kinds_add_up c.args.passes.items, of_kind Clients, of_kind Player, of_kind Scan, c.locked.invariant))
