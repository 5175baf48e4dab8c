use Rattle.std.proofs.Common.{◌∙◌, ap, subst, sym, inl, inr, Err}
use Rattle.std.proofs.lemmas.Bool.{false≢true}
use Rattle.disk_model.proofs.LaterLaws.{pair_on}
use Rattle.live_stage.specs.declared.refusal.StartError.{StartError}
use Rattle.mpd_server.specs.Ends.{refusal_of, status_of}
use Rattle.mpd_server.specs.Openings.{IsOpening}
use Rattle.mpd_server.proofs.OpeningLaws.{broken_by, still_gives, good_status}
use Rattle.mpd_server.proofs.opening.open_journal.Goals as goal

pub returns-in-Ok-clause-once : goal.returns-in-Ok-clause-once
returns-in-Ok-clause-once g c = λ ha hb is. c.in-Ok.ensures.opened ha hb

pub returns-then-not-is_faulted-clause-refused : goal.returns-then-not-is_faulted-clause-refused
returns-then-not-is_faulted-clause-refused g c =
    let was = c.in-Err.ensures.refused in
    rw c.last.ensures
    (record {
      error = was.error;
      refusal = was.refusal;
      told = ap status_of was.told;
      reason = λ ha hb. inl (
        λ broken. false≢true
            (sym c.if-not-is_faulted.true ∙ c.is_faulted.ensures.1 (was.told ∙ ap refusal_of broken)),
        was.reason ha hb,
      );
    })

pub returns-in-Ok-open_life-clause-again : goal.returns-in-Ok-open_life-clause-again
returns-in-Ok-open_life-clause-again g c = λ ha hb is.
    let was = c.in-Err.ensures.refused in
    let broken = broken_by was.error (sym was.told ∙ c.is_faulted.ensures.0 c.if-not-is_faulted.false) in
    let later = c.in-Err.ensures.later in
    let pa = later.a.honesty.0 ha in
    let pb = later.b.honesty.0 hb in
    record {
      between_a = c.in-Err.first.a;
      between_b = c.in-Err.first.b;
      first = subst (λ (e : StartError). IsOpening c.args.profile g.D.Disk.content g.D.Disk.history g.D.Disk.faults c.args.a c.args.b (Err e)
          c.in-Err.first.a c.in-Err.first.b) broken (was.reason ha hb);
      image_a = g.met.D.Disk.content_is_image c.in-Err.first.a pa;
      image_b = g.met.D.Disk.content_is_image c.in-Err.first.b pb;
      second = c.in-Ok-open_life.ensures.opened pa pb;
    }

pub returns-in-Ok-open_life-clause-later : goal.returns-in-Ok-open_life-clause-later
returns-in-Ok-open_life-clause-later g c = pair_on c.in-Err.ensures.later c.in-Ok-open_life.ensures.later

pub returns-in-Err-open_life-clause-refused : goal.returns-in-Err-open_life-clause-refused
returns-in-Err-open_life-clause-refused g c =
    let was = c.in-Err.ensures.refused in
    let second = c.in-Err-open_life.ensures.refused in
    let broken = broken_by was.error (sym was.told ∙ c.is_faulted.ensures.0 c.if-not-is_faulted.false) in
    let later = c.in-Err.ensures.later in
    rw c.last-in-Err-open_life.ensures
    (record {
      error = second.error;
      refusal = second.refusal;
      told = ap status_of second.told;
      reason = λ ha hb. inr (record {
        between_a = c.in-Err.first.a;
        between_b = c.in-Err.first.b;
        first = subst (λ (e : StartError). IsOpening c.args.profile g.D.Disk.content g.D.Disk.history g.D.Disk.faults c.args.a c.args.b (Err e)
            c.in-Err.first.a c.in-Err.first.b) broken (was.reason ha hb);
        image_a = g.met.D.Disk.content_is_image c.in-Err.first.a (later.a.honesty.0 ha);
        image_b = g.met.D.Disk.content_is_image c.in-Err.first.b (later.b.honesty.0 hb);
        second = second.reason (later.a.honesty.0 ha) (later.b.honesty.0 hb);
      });
    })

pub returns-in-Err-open_life-clause-opens : goal.returns-in-Err-open_life-clause-opens
returns-in-Err-open_life-clause-opens g c = λ ha hb all.
    let was = c.in-Err.ensures.refused in
    let second = c.in-Err-open_life.ensures.refused in
    let later = c.in-Err.ensures.later in
    let first_kept = was.reason ha hb in
    let opening = second.reason (later.a.honesty.0 ha) (later.b.honesty.0 hb) in
    good_status second.error c.last-in-Err-open_life.result.status (rw c.last-in-Err-open_life.ensures (ap status_of second.told))
    (opening.opens (still_gives _ _ _ _ _ first_kept.any_moment all))

pub returns-in-Err-open_life-clause-later : goal.returns-in-Err-open_life-clause-later
returns-in-Err-open_life-clause-later g c =
    rw c.last-in-Err-open_life.ensures (pair_on c.in-Err.ensures.later c.in-Err-open_life.ensures.later)
