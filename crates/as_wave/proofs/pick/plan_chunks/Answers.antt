use Rattle.std.proofs.Common.{◌∙◌, sym, arith, length, All}
use Rattle.std.proofs.lemmas.List.Elements.{All-filter}
use Rattle.as_wave.specs.ChunkHead.{StandsBy}
use Rattle.as_wave.specs.StandsFor.{is_kept_id}
use Rattle.wave_pcm.specs.declared.chunks.ChunkHead.{ChunkHead}
use Rattle.as_wave.proofs.Picks.{many_heads, without_format, without_data, many_kept, all_found}
use Rattle.as_wave.proofs.pick.plan_chunks.Goals as goal

pub returns-then-heads-gt-MAX_CHUNKS-clause-plan :
    goal.returns-then-heads-gt-MAX_CHUNKS-clause-plan
returns-then-heads-gt-MAX_CHUNKS-clause-plan g c = λ told each.
    many_heads (g.S.Source.bytes c.args.source.now) c.args.heads.now (omega arith)

pub returns-in_default-clause-plan : goal.returns-in_default-clause-plan
returns-in_default-clause-plan g c = λ told each.
    without_format (g.S.Source.bytes c.args.source.now) c.args.heads.now (sym c.in_default.is ∙ c.in_ok-format.ensures.format told each)

pub returns-in_default-first_data-clause-plan : goal.returns-in_default-first_data-clause-plan
returns-in_default-first_data-clause-plan g c = λ told each.
    without_data (g.S.Source.bytes c.args.source.now) c.args.heads.now c.in-Some.format (sym c.in-Some.is
    ∙ c.in_ok-format.ensures.format told each) c.in_default-first_data.ensures.found

pub returns-then-len-gt-MAX_KEPT-clause-plan : goal.returns-then-len-gt-MAX_KEPT-clause-plan
returns-then-len-gt-MAX_KEPT-clause-plan g c = λ told each.
    many_kept (g.S.Source.bytes c.args.source.now) c.args.heads.now c.in_ok-kept.kept.items c.in_ok-kept.ensures (omega arith)

pub returns-clause-plan : goal.returns-clause-plan
returns-clause-plan g c = λ told each.
    let file = g.S.Source.bytes c.args.source.now in
    let stands = c.in-Some-first_data.ensures.within (length file) each in
    let kept : All (StandsBy (length file)) c.in_ok-kept.kept.items = rw c.in_ok-kept.ensures (All-filter (λ (h : ChunkHead). is_kept_id
    h.id) (StandsBy (length file)) c.args.heads.now each) in
    all_found file c.args.heads.now c.in_ok-kept.kept.items c.in-Some.format c.in-Some-first_data.sound (omega arith)
    (sym c.in-Some.is ∙ c.in_ok-format.ensures.format told each) c.in-Some-first_data.ensures.found c.in_ok-kept.ensures (omega arith)
    ∙ c.plan_for.ensures.planned file stands kept

pub returns-clause-fits : goal.returns-clause-fits
returns-clause-fits g c = λ told each.
    let file = g.S.Source.bytes c.args.source.now in
    let kept : All (StandsBy (length file)) c.in_ok-kept.kept.items = rw c.in_ok-kept.ensures (All-filter (λ (h : ChunkHead). is_kept_id
    h.id) (StandsBy (length file)) c.args.heads.now each) in
    c.plan_for.ensures.fits file (c.in-Some-first_data.ensures.within (length file) each) kept

pub plan_for-requires-clause-places : goal.plan_for-requires-clause-places
plan_for-requires-clause-places g c =
    let kept : All (StandsBy 18446744073709551615) c.in_ok-kept.kept.items = rw c.in_ok-kept.ensures (All-filter (λ (h : ChunkHead).
    is_kept_id h.id) (StandsBy 18446744073709551615) c.args.heads.now c.requires) in
    kept
