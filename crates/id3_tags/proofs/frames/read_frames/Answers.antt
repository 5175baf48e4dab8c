use Rattle.std.proofs.Common.{◌≡◌, ◌-◌, ◌≤◌, suc, length, Some, None, arith}
use Rattle.song_files.proofs.Sources.{keeps_then}
use Rattle.id3_tags.specs.Frames.{head_at, IsWithin, texts_at, pictures_at}
use Rattle.id3_tags.proofs.FrameList.{heads_end, heads_none, heads_more, texts_more, pictures_more, tag_made}
use Rattle.id3_tags.proofs.frames.read_frames.Goals as goal

pub returns-in_default-clause-read : goal.returns-in_default-clause-read
returns-in_default-clause-read g c = λ told within.
    let kept = c.frames.invariant.3 told in
    let inside : c.args.end ≤ length (g.S.Source.bytes c.frames.source) = rw kept.same within in
    let none : None ≡ head_at c.args.layout (g.S.Source.bytes c.args.source.now) c.frames.at c.args.end
    = rw kept.same at (rw c.in_default.is at (c.in_ok-head.ensures.found kept.is_honest inside)) in
    tag_made c.frames.tag c.args.layout (g.S.Source.bytes c.args.source.now) c.args.first c.args.end _
    (heads_none c.frames.left _ _ _ _ none) c.frames.invariant.2 c.frames.invariant.1 (c.frames.invariant.4 told within)
    (c.frames.invariant.5 told within)

pub frames-preserved : goal.frames-preserved
frames-preserved g c =
    let ahead : IsWithin c.args.end c.in-Some.head = rw c.in-Some.is at c.in_ok-head.ensures.within in
    let less : c.frames.left ≡ suc (c.frames.left - 1) = omega arith in (
      ahead.next_end,
      c.in_ok-read_texts.ensures.few,
      c.frames.invariant.2,
      λ told.
          let k0 = c.frames.invariant.3 told in
          let k1 = keeps_then k0 (c.in_ok-head.ensures.kept k0.is_honest) in
          let k2 = keeps_then k1 (c.in_ok-read_texts.ensures.kept k1.is_honest) in
          keeps_then k2 (c.in_ok-read_picture.ensures.kept k2.is_honest),
      λ told within.
          let k0 = c.frames.invariant.3 told in
          let k1 = keeps_then k0 (c.in_ok-head.ensures.kept k0.is_honest) in
          let inside : c.args.end ≤ length (g.S.Source.bytes c.frames.source) = rw k0.same within in
          let some : Some c.in-Some.head ≡ head_at c.args.layout (g.S.Source.bytes c.args.source.now) c.frames.at c.args.end
          = rw k0.same at (rw c.in-Some.is at (c.in_ok-head.ensures.found k0.is_honest inside)) in
          texts_more (texts_at (g.S.Source.bytes c.args.source.now)) _ _ _ _ _ _
          (rw k1.same at (c.in_ok-read_texts.ensures.read k1.is_honest))
          (heads_more c.frames.left (c.frames.left - 1) _ _ _ _ _ less some) (c.frames.invariant.4 told within),
      λ told within.
          let k0 = c.frames.invariant.3 told in
          let k1 = keeps_then k0 (c.in_ok-head.ensures.kept k0.is_honest) in
          let k2 = keeps_then k1 (c.in_ok-read_texts.ensures.kept k1.is_honest) in
          let inside : c.args.end ≤ length (g.S.Source.bytes c.frames.source) = rw k0.same within in
          let some : Some c.in-Some.head ≡ head_at c.args.layout (g.S.Source.bytes c.args.source.now) c.frames.at c.args.end
          = rw k0.same at (rw c.in-Some.is at (c.in_ok-head.ensures.found k0.is_honest inside)) in
          pictures_more (pictures_at (g.S.Source.bytes c.args.source.now)) _ _ _ _ _ _
          (rw k2.same at (c.in_ok-read_picture.ensures.read k2.is_honest))
          (heads_more c.frames.left (c.frames.left - 1) _ _ _ _ _ less some) (c.frames.invariant.5 told within),
    )

pub returns-clause-read : goal.returns-clause-read
returns-clause-read g c = λ told within.
    let none : c.frames.left ≡ 0 = omega arith in
    tag_made c.frames.tag c.args.layout (g.S.Source.bytes c.args.source.now) c.args.first c.args.end _
    (heads_end c.frames.left c.args.layout (g.S.Source.bytes c.args.source.now) c.frames.at c.args.end none)
    c.frames.invariant.2 c.frames.invariant.1 (c.frames.invariant.4 told within)
    (c.frames.invariant.5 told within)
