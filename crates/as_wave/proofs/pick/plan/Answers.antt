use Rattle.std.proofs.Common.{◌≡◌, ◌≤◌, ◌∙◌, sym, length, true, false, arith, All, List, ℕ, subst, IfOk, ap, take, ◌+◌}
use Rattle.std.specs.Prelude.{option_map, Option}
use Rattle.std.proofs.lemmas.Grind.{common_steps}
use Rattle.std.proofs.lemmas.List.Elements.{All-weaker}
use Rattle.wave_pcm.specs.Reading.{is_wave, MAX_CHUNKS}
use Rattle.wave_pcm.specs.Chunks.{chunks_in}
use Rattle.song_files.proofs.Sources.{keeps_then}
use Rattle.as_wave.specs.ChunkHead.{chunks_at, StandsBy}
use Rattle.as_wave.specs.Plan.{planned}
use Rattle.as_wave.specs.StandsFor.{wave_by, converted}
use Rattle.as_wave.proofs.Picks.{not_wave, by_heads, StandsBy-later}
use Rattle.as_wave.proofs.pick.plan.Goals as goal

pub returns-then-not-branch-clause-plan : goal.returns-then-not-branch-clause-plan
returns-then-not-branch-clause-plan g c = λ told.
    let begins : is_wave (g.S.Source.bytes c.args.source.now) ≡ false = sym (c.in_ok-begins_as_wave.ensures.told told
    (c.len-end.ensures told)) ∙ (grind (arith, common_steps)) in
    not_wave (g.S.Source.bytes c.args.source.now) begins

pub returns-clause-plan : goal.returns-clause-plan
returns-clause-plan g c = λ told.
    let file = g.S.Source.bytes c.args.source.now in
    let begins : is_wave file ≡ true = sym (c.in_ok-begins_as_wave.ensures.told told (c.len-end.ensures told)) ∙ (grind (arith, common_steps)) in
    let first = c.in_ok-begins_as_wave.ensures.kept told in
    let next = keeps_then first (c.in_ok-heads.ensures.kept first.is_honest) in
    let end : c.len-end.result ≤ length file = omega (arith, c.len-end.ensures told) in
    let inside : c.len-end.result ≤ length (g.S.Source.bytes c.begins_as_wave.new.source) = rw first.same end in
    let still : c.len-end.result ≤ length (g.S.Source.bytes c.list_chunks.new.source) = rw next.same end in
    let each : All (StandsBy (length (g.S.Source.bytes c.list_chunks.new.source))) c.deref.result.now
    = rw c.deref.ensures.value (All-weaker (StandsBy c.len-end.result) (StandsBy (length (g.S.Source.bytes c.list_chunks.new.source)))
    (λ head stands. StandsBy-later c.len-end.result (length (g.S.Source.bytes c.list_chunks.new.source)) head still stands)
    c.in_ok-heads.heads.items c.in_ok-heads.ensures.bounded) in
    let L : List ℕ → Type 0 = λ f. chunks_at f c.in_ok-heads.heads.items ≡ take (MAX_CHUNKS + 1) (chunks_in f 12 c.len-end.result) in
    let listed : L file = subst L first.same (c.in_ok-heads.ensures.listed first.is_honest inside) in
    let whole : converted file ≡ wave_by (chunks_at file c.deref.result.now)
    = by_heads file c.in_ok-heads.heads.items c.len-end.result begins (c.len-end.ensures told) listed
    ∙ ap (λ hs. wave_by (chunks_at file hs)) (sym c.deref.ensures.value) in
    let P : List ℕ → Type 0 = λ f. IfOk c.plan_chunks.result (λ plan. wave_by (chunks_at f c.deref.result.now) ≡ option_map (λ p.
    planned p f) plan) in
    let Q : Option (List ℕ) → Type 0 = λ x. IfOk c.plan_chunks.result (λ plan. x ≡ option_map (λ p. planned p file) plan) in
    subst Q (sym whole) (subst P next.same (c.plan_chunks.ensures.plan next.is_honest each))
