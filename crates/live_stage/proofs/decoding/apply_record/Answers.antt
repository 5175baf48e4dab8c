use Rattle.live_stage.proofs.RecordLaws.{body_gives, record_fails}
use Rattle.live_stage.proofs.decoding.apply_record.Goals as goal

pub returns-in-Ok : goal.returns-in-Ok
returns-in-Ok c = body_gives c.args.layout c.args.body.now c.args.saved.now c.apply_body.new.self c.in-Ok.ensures.exact

pub returns-in-Err : goal.returns-in-Err
returns-in-Err c = rw c.bad_record.ensures (record_fails c.args.layout c.args.gate c.args.body.now c.args.saved.now c.apply_body.new.self
    c.in-Err.error c.in-Err.ensures.exact)
