use Rattle.std.proofs.Common.{◌≡◌, ◌+◌, List, [], ◌++◌, length, vec_len, append_assoc, sym, ap, refl, subst, ◌∙◌, rules, arith}
use Rattle.std.proofs.lemmas.Bool.{eqb-true}
use Rattle.std.proofs.lemmas.List.{nil_from_length}
use Rattle.daemon_core.specs.declared.event.Event.{Event}
use Rattle.live_stage.specs.GroupRun.{IsGroupsSoFar}
use Rattle.live_stage.specs.Transcript.{history_of}
use Rattle.live_stage.proofs.GroupLaws.{Reply}
use Rattle.live_stage.proofs.GroupRunLaws.{begins, fails_on, joins, whole_run}
use Rattle.live_stage.proofs.RunLaws.{replayed_from_start, run_replies}
use Rattle.live_stage.proofs.live.Live.run_groups.Goals as goal

pub groups-init : goal.groups-init
groups-init g c =
    let many : c.len.result ≡ length c.args.events.items = search rules in
    record {
      so_far = ([], refl, rw c.in-Ok.ensures.items (begins g.D.Disk.honest g.D.Disk.history c.args.self.now c.is_broken-broken.ensures.kept));
      room = omega (arith, many, c.in-Ok.ensures.exact, c.in-Ok.ensures.len);
      later_a = omega arith;
      later_b = omega arith;
      fault = λ ha hb usable broken. absurd cc;
    }

pub groups-preserved : goal.groups-preserved
groups-preserved g c =
    let at = c.groups in
    let r = c.run_group-rest.ensures in
    let h = r.handled in
    let so_far = at.invariant.so_far in
    record {
      so_far = (
        so_far.0 ++ h.front,
        append_assoc so_far.0 h.front c.run_group-rest.result.items ∙ ap (λ (l : List Event). so_far.0 ++ l) (sym h.parted) ∙ so_far.1,
        subst (λ (l : List Reply). IsGroupsSoFar g.D.Disk.honest g.D.Disk.history c.args.self.now c.run_group-rest.new.self
            (so_far.0 ++ h.front) l) (sym h.added)
            (joins g.D.Disk.honest g.D.Disk.history c.args.self.now at.self c.run_group-rest.new.self so_far.0 h.front at.answers.items h.replies
            so_far.2 h.so_far),
      );
      room = r.room;
      later_a = omega (arith, at.invariant.later_a, r.later.a.counted);
      later_b = omega (arith, at.invariant.later_b, r.later.b.counted);
      fault = λ ha hb usable broken. fails_on g.D.Disk.faults c.args.self.now at.self c.run_group-rest.new.self at.invariant.later_a
          at.invariant.later_b h.so_far.stays (at.invariant.fault ha hb usable)
          (λ old_usable. r.fault (so_far.2.honest_a.0 ha) (so_far.2.honest_b.0 hb) old_usable broken);
    }

pub returns-clause-one_life : goal.returns-clause-one_life
returns-clause-one_life g c =
    let so_far = c.groups.invariant.so_far in
    let empty = eqb-true (vec_len c.groups.rest) 0 (sym c.is_empty.ensures ∙ c.groups-test.false) in
    let many : vec_len c.groups.rest ≡ length c.groups.rest.items = omega arith in
    let none : c.groups.rest.items ≡ [] = nil_from_length c.groups.rest.items (omega (arith, empty, many)) in
    let r = whole_run g.D.Disk.honest g.D.Disk.history c.args.self.now c.groups.self c.args.events.items so_far.0 c.groups.rest.items
    c.groups.answers.items so_far.1 none so_far.2 in
    let whole = history_of [] c.args.events.items c.groups.answers.items in
    λ kept begun. record {
      replies = run_replies c.args.self.now kept [] c.args.events.items c.groups.answers.items begun r.transcript;
      state = λ fine. r.state fine ∙ rw begun (replayed_from_start kept whole);
    }
