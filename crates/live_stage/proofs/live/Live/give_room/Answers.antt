use Rattle.std.proofs.Common.{Some, true, refl}
use Rattle.live_stage.proofs.TurnLaws.{found_same}
use Rattle.live_stage.proofs.live.Live.give_room.Goals as goal

-- nothing is done
pub returns-then-not-gives_room-clause-same_state : goal.returns-then-not-gives_room-clause-same_state
returns-then-not-gives_room-clause-same_state g c = λ ha hb usable.
    found_same _ _ c.args.self.now.state.machine.saved (c.is_broken.ensures.kept ha hb usable)

-- where it isn't broken the files give its state, whatever was answered
pub returns-clause-kept : goal.returns-clause-kept
returns-clause-kept g c = λ ha hb usable.
    let later = c.give_record_room-given.ensures.later in
    c.is_broken-broken.ensures.kept (later.a.honesty.0 ha) (later.b.honesty.0 hb) usable
