use Rattle.std.proofs.Common.{◌≡◌, false, sym, ◌∙◌}
use Rattle.std.proofs.lemmas.Bool.{false≢true}
use Rattle.live_stage.proofs.AheadLaws.{only_these}
use Rattle.live_stage.proofs.live.Live.make_room.Goals as goal

-- where it isn't broken the files give its state, whatever was answered
pub returns-clause-kept : goal.returns-clause-kept
returns-clause-kept g c = λ ha hb usable.
    let later = c.look_for_room-is_there.ensures.later in
    c.is_broken-broken.ensures.kept (later.a.honesty.0 ha) (later.b.honesty.0 hb) usable

pub returns-clause-refuses : goal.returns-clause-refuses
returns-clause-refuses g c =
    let looked = c.look_for_room-is_there.ensures in
    let usable : c.args.self.now.is_broken ≡ false = sym c.is_broken.ensures.value ∙ c.if-is_broken.false in
    record {
      broken = λ is. absurd (false≢true (sym usable ∙ is));
      nothing_else = only_these c.look_for_room-is_there.result looked.refuses looked.no_memory;
      stays = looked.stays;
      not_counted = looked.not_counted;
    }
