use Rattle.mpd_program.proofs.RoomLaws.{room_made, room_refused}
use Rattle.mpd_program.proofs.console.serving.Service.look_for_room.Goals as goal

pub returns-clause-served : goal.returns-clause-served
returns-clause-served g c =
    let made = c.in-Ok.ensures in
    room_made c.args.self.now c.make_room.new.self made.looks.state made.looks.usable (made.fault.met_none (λ is. cc)) made.later

pub returns-in-Err-clause-served : goal.returns-in-Err-clause-served
returns-in-Err-clause-served g c =
    let refused = c.in-Err.ensures in
    rw c.ending_of.ensures (room_refused c.args.self.now c.make_room.new.self c.in-Err.refusal c.requires.stage
    (λ ha hb. refused.same_state ha hb c.requires.stage) (λ other. refused.refuses.stays (λ is. other (cc))) refused.fault refused.later)
