use Rattle.stage_workers.proofs.RoomLaws.{never_none, room_asked, room_told}
use Rattle.stage_workers.proofs.shared.SharedStage.tell_room.Goals as goal

pub returns-in-Ok-clause-none : goal.returns-in-Ok-clause-none
returns-in-Ok-clause-none g c = λ is.
    absurd (never_none g.D.Disk.honest g.D.Disk.history _ _ _ c.in-Ok.served c.in-Ok.ensures.entered is)

pub returns-in-Ok-clause-told : goal.returns-in-Ok-clause-told
returns-in-Ok-clause-told g c =
    room_told g.D.Disk.honest g.D.Disk.history _ _ c.args.pass c.enter.new.pass c.in-Ok-Some.is_there c.in-Ok.served
    c.in-Ok.ensures.entered c.in-Ok.ensures.counted

pub returns-in-Ok-clause-room : goal.returns-in-Ok-clause-room
returns-in-Ok-clause-room g c =
    room_asked g.D.Disk.honest g.D.Disk.history _ _ c.in-Ok-Some.is_there c.in-Ok.served c.in-Ok.ensures.entered
