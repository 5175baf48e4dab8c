use Rattle.std.proofs.Common.{◌≡◌, ◌<◌, ◌≤◌, ◌∙◌, ap, sym, arith, length}
use Rattle.std.proofs.lemmas.Result.{err_from_is_err_and}
use Rattle.std.proofs.lemmas.Grind.{common_steps}
use Rattle.song_files.proofs.Sources.{keeps_then, grows_after}
use Rattle.flac.specs.Blocks.{block_at, EndsBy}
use Rattle.flac.specs.declared.refusal.FlacError.{FlacError}
use Rattle.flac.proofs.BlockList.{blocks_more, blocks_refused, blocks_many, All_push}
use Rattle.flac.proofs.Verdicts.{refuses_by}
use Rattle.flac.proofs.blocks.list_blocks.Goals as goal

pub returns-in_err-block-clause-refused : goal.returns-in_err-block-clause-refused
returns-in_err-block-clause-refused g c = λ told all.
    let kept = c.heads.invariant.2 told in
    let here : c.args.end ≡ length (g.S.Source.bytes c.heads.source) = rw kept.same all in
    let p = err_from_is_err_and c.from_residual.result c.from_residual.ensures.1 in
    rw (p.1, p.2) (refuses_by (block_at (g.S.Source.bytes c.heads.source) c.heads.at) _ _ _ (grows_after _ _ _ kept.counted)
    (λ e r. blocks_refused 65536 _ (g.S.Source.bytes c.args.source.now) c.heads.at c.heads.blocks.items _ e (omega arith)
    (c.heads.invariant.3 told all) (ap (λ file. block_at file c.heads.at) (sym kept.same) ∙ r))
    _ (c.in_err-block.ensures.refused kept.is_honest here))

pub returns-then-block-clause-listed : goal.returns-then-block-clause-listed
returns-then-block-clause-listed g c = λ told all.
    let kept = c.heads.invariant.2 told in
    let here : c.args.end ≡ length (g.S.Source.bytes c.heads.source) = rw kept.same all in
    sym (blocks_more 65536 _ (g.S.Source.bytes c.args.source.now) c.heads.at c.heads.blocks.items c.push.new.self.items
    c.in_ok-block.block _ _ (omega arith) c.if-block.true (ap (λ file. block_at file c.heads.at) (sym kept.same)
    ∙ c.in_ok-block.ensures.block kept.is_honest here) c.in_ok-push.ensures.items (c.heads.invariant.3 told all))

pub heads-preserved : goal.heads-preserved
heads-preserved g c = (
  c.in_ok-block.ensures.within.ends,
  grind (arith, common_steps),
  λ told. let kept = c.heads.invariant.2 told in keeps_then kept (c.in_ok-block.ensures.kept kept.is_honest),
  λ told all.
      let kept = c.heads.invariant.2 told in
      let here : c.args.end ≡ length (g.S.Source.bytes c.heads.source) = rw kept.same all in
      let more = blocks_more 65536 _ (g.S.Source.bytes c.args.source.now) c.heads.at c.heads.blocks.items c.push.new.self.items
      c.in_ok-block.block _ _ (omega arith) c.if-block.false (ap (λ file. block_at file c.heads.at) (sym kept.same)
      ∙ c.in_ok-block.ensures.block kept.is_honest here) c.in_ok-push.ensures.items (c.heads.invariant.3 told all) in
      rw c.in_ok-push.ensures.len more,
  All_push (EndsBy c.args.end) _ _ _ c.in_ok-push.ensures.items c.heads.invariant.4 c.in_ok-block.ensures.within.ends,
)

pub returns-clause-refused : goal.returns-clause-refused
returns-clause-refused g c = λ told all. blocks_many 65536 _ _ _ _ _ (omega arith) (c.heads.invariant.3 told all)
