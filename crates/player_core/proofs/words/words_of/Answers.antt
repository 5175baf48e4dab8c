use Rattle.std.proofs.Common.{◌≡◌, ◌-◌, ℕ, List, [], ◌∷◌, map, take, slice_range, refl, ap, ◌∙◌}
use Rattle.std.proofs.lemmas.List.{take_all, take-map, drop-map}
use Rattle.play_queue.specs.declared.entry.Entry.{Entry}
use Rattle.play_queue.specs.Entries.{block}
use Rattle.play_queue.specs.Queue.{ids_of}
use Rattle.player_core.specs.Words.{word}
use Rattle.player_core.proofs.words.words_of.Goals as goal

-- the words of ids are those of the entries that have them
words-ids : (key : List ℕ) (order : ℕ) (entries : List Entry)
    → map (word key order) (ids_of entries) ≡ map (λ (entry : Entry). word key order entry.id) entries
words-ids key order [] = refl
words-ids key order (entry ∷ entries) = ap (λ l. word key order entry.id ∷ l) (words-ids key order entries)

-- the ids of a block
ids-block : (entries : List Entry) (start end : ℕ) → slice_range (ids_of entries) start end ≡ ids_of (block entries start end)
ids-block entries start end =
    ap (λ l. take (end - start) l) (drop-map (λ (entry : Entry). entry.id) start entries)
    ∙ take-map (λ (entry : Entry). entry.id) (end - start) _

pub returns : goal.returns
returns c =
    let words = map (word c.args.key c.args.order) in
    let ids = slice_range c.ids-ids.result.now c.args.start c.args.end in
    c.loop-id.invariant.words ∙ ap words (take_all c.loop-id.id-index ids c.loop-id-test.false)
    ∙ ap (λ l. words (slice_range l c.args.start c.args.end)) c.ids-ids.ensures.ids
    ∙ ap words (ids-block c.args.entries.now c.args.start c.args.end)
    ∙ words-ids c.args.key c.args.order (block c.args.entries.now c.args.start c.args.end)
