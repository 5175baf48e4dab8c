use Rattle.std.proofs.Common.{◌≡◌, ◌+◌, ◌≤◌, ◌∙◌, sym, arith, length, true, false, slice_range}
use Rattle.std.proofs.lemmas.Grind.{common_steps}
use Rattle.std.proofs.lemmas.Result.{on_ok_weaker}
use Rattle.wave_pcm.specs.Parts.{is_text_list}
use Rattle.wave_pcm.proofs.PartList.{chunk_alone, chunk_and_texts, same_bytes}
use Rattle.wave_pcm.proofs.listing.list_chunk.Goals as goal

pub returns-then-branch-clause-listed : goal.returns-then-branch-clause-listed
returns-then-branch-clause-listed g c = λ told within.
    let kept = c.in_ok-is_text_list.ensures.kept told in
    let inside : c.args.head.first + c.args.head.len ≤ length (g.S.Source.bytes c.is_text_list.new.source) = rw kept.same within in
    let yes : is_text_list c.in_file-kind.result (slice_range (g.S.Source.bytes c.args.source.now) c.args.head.first
    (c.args.head.first + c.args.head.len)) ≡ true
    = sym (c.in_ok-is_text_list.ensures.told told within) ∙ c.if-branch.true in
    let room : 4 ≤ c.args.head.len = c.in_ok-is_text_list.ensures.room c.if-branch.true in
    on_ok_weaker c.list_texts.result
    (λ listed. chunk_and_texts 65537 (g.S.Source.bytes c.args.source.now) c.args.parts.now.items c.push.new.self.items
    c.list_texts.new.parts.items c.args.head c.in_file-kind.result
    c.in_file-kind.ensures yes room c.in_ok-push.ensures.items
    (same_bytes 65537 _ _ c.push.new.self.items c.list_texts.new.parts.items (c.args.head.first + 4) (c.args.head.first +
    c.args.head.len) kept.same listed))
    (c.list_texts.ensures.listed kept.is_honest inside)

pub returns-clause-listed : goal.returns-clause-listed
returns-clause-listed g c = λ told within.
    let no : is_text_list c.in_file-kind.result (slice_range (g.S.Source.bytes c.args.source.now) c.args.head.first
    (c.args.head.first + c.args.head.len)) ≡ false
    = sym (c.in_ok-is_text_list.ensures.told told within) ∙ c.if-branch.false in
    let few : length c.push.new.self.items ≤ 65537 = grind (arith, common_steps) in
    chunk_alone 65537 (g.S.Source.bytes c.args.source.now) c.args.parts.now.items c.push.new.self.items c.args.head c.in_file-kind.result
    c.in_file-kind.ensures no c.in_ok-push.ensures.items few
