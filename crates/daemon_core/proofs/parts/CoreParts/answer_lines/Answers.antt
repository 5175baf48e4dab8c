use Rattle.std.proofs.Common.{refl, ap, ◌∙◌, subst}
use Rattle.std.specs.Prelude.{Option, option_copied}
use Rattle.daemon_core.specs.Request.{RunsLines}
use Rattle.daemon_core.specs.Run.{asker, separator}
use Rattle.daemon_core.specs.Seen.{view_of}
use Rattle.daemon_core.specs.declared.picture.PictureTold.{PictureTold}
use Rattle.state_codec.specs.SavedState.{SavedState}
use Rattle.state_codec.specs.Sealed.{checksum_len}
use Rattle.daemon_core.proofs.RequestLaws.{lines_do, lines_place}
use Rattle.daemon_core.proofs.parts.CoreParts.answer_lines.Goals as goal

pub returns-clause-ok : goal.returns-clause-ok
returns-clause-ok c =
    lines_do c.args.client c.args.place (separator c.args.separated) c.args.lines c.args.self.now
    (record c.args.self.now { machine = c.run_lines-end.new.machine; views = c.make_room.new.self; talks = c.run_lines-end.new.talks })
    c.end_request.new.self c.in_ok-work.work c.run_lines-end.new.work c.seen_by-view.result c.run_lines-end.result c.end_request.result
    c.in_ok-work.ensures.text c.in_ok-work.ensures.ops
    (c.in_ok-work.ensures.size ∙ ap checksum_len (c.profile-profile.ensures ∙ ap (λ (s : SavedState). s.profile) c.saved.ensures))
    c.requires.fresh
    (subst (λ (told : Option PictureTold). RunsLines (asker c.args.client told) c.args.place (separator c.args.separated)
    c.seen_by-view.result c.args.lines c.args.self.now.machine c.run_lines-end.new.machine c.args.self.now.talks
    c.run_lines-end.new.talks c.in_ok-work.work c.run_lines-end.new.work c.run_lines-end.result) c.told_for-told.ensures
    c.run_lines-end.ensures)
    refl c.make_room.ensures.same refl
    (c.seen_by-view.ensures ∙ ap (λ views. view_of views c.args.client) c.make_room.ensures.same) c.end_request.ensures

pub returns-clause-place : goal.returns-clause-place
returns-clause-place c =
    lines_place c.args.client (asker c.args.client (option_copied c.told_for-told.result)) c.args.place (separator c.args.separated)
    c.args.lines c.args.self.now.machine c.run_lines-end.new.machine c.args.self.now.talks
    (record c.args.self.now { machine = c.run_lines-end.new.machine; views = c.make_room.new.self; talks = c.run_lines-end.new.talks })
    c.end_request.new.self c.in_ok-work.work c.run_lines-end.new.work c.seen_by-view.result
    c.run_lines-end.result c.end_request.result c.run_lines-end.ensures c.end_request.ensures
