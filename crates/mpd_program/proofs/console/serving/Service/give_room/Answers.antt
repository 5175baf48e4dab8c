use Rattle.live_stage.specs.declared.refusal.LiveError.TheVariants.{Broken}
use Rattle.live_stage.proofs.TurnLaws.{error_is}
use Rattle.mpd_program.proofs.RoomLaws.{room_made, room_refused}
use Rattle.mpd_program.proofs.console.serving.Service.give_room.Goals as goal

pub returns-clause-served : goal.returns-clause-served
returns-clause-served g c =
    let given = c.in-Ok.ensures in
    room_made c.args.self.now c.give_room.new.self given.same.state given.same.usable (given.fault.met_none (λ is. cc)) given.later

pub returns-in-Err-clause-served : goal.returns-in-Err-clause-served
returns-in-Err-clause-served g c =
    let refused = c.in-Err.ensures in
    rw c.ending_of.ensures (room_refused c.args.self.now c.give_room.new.self c.in-Err.refusal c.requires.stage
    (λ ha hb. refused.same_state ha hb c.requires.stage)
    (λ other. absurd (other (error_is c.in-Err.refusal Broken refused.refuses.fault))) refused.fault refused.later)
