use Rattle.std.proofs.Common.{◌≡◌, ◌-◌, ◌<◌, ℕ, Bool, true, List, [], length, map, drop, get_or, Some, None, refl, sym, ap, subst, ◌∙◌, arith}
use Rattle.std.proofs.Math.Seq.{drop-length}
use Rattle.std.proofs.lemmas.List.{length-map, get_or-map, get_or_default}
use Rattle.play_queue.specs.declared.entry.Entry.{Entry}
use Rattle.play_queue.specs.Shown.{shown}
use Rattle.player_core.specs.Candidates.{is_counted, is_first}
use Rattle.player_core.specs.Words.{Round, word}
use Rattle.player_core.specs.declared.block.Block.{Block}
use Rattle.play_queue.specs.Entries.{Uris}
use Rattle.player_core.proofs.Least.{best_from, best_from-first, best_from-behind, best_from-leaves, best_from-uncounted}
use Rattle.player_core.proofs.choosing.least.Goals as goal
use Rattle.player_core.proofs.choosing.least.Goals.{else-not-takes-via-then-not-takes+else-is_counted, else-not-takes-via-else-not-takes}

abbrev id_of : Entry → ℕ
id_of entry = entry.id

-- an id among the ids is that of its entry
id_at : (entries : List Entry) (ids : List ℕ) (k : ℕ) (e : Entry) → ids ≡ map id_of entries → k < length entries
    → get_or ids k 0 ≡ (get_or entries k e).id
id_at entries ids k e same within = ap (λ l. get_or l k 0) same ∙ get_or-map id_of entries k e 0 within

-- behind the last entry there is no best
nothing : (key : List ℕ) (order : ℕ) (test : Entry → Bool) (block : Block) (dropped : Uris) (entries : List Entry)
    → None ≡ best_from key order test block dropped (length entries) (drop (length entries) entries)
nothing key order test block dropped entries = rw (drop-length entries) refl

pub loop-at-init : goal.loop-at-init
loop-at-init c =
    let long : length c.ids-ids.result.now ≡ length c.args.entries.now =
    ap length c.ids-ids.ensures.ids ∙ length-map c.args.entries.now id_of in
    record {
      round = c.turn_to.ensures;
      best = subst (λ n. None ≡ best_from c.args.draw.key c.args.draw.order
          (is_counted c.args.is_new c.args.current c.args.played.now.keys) c.args.block c.args.dropped.now n (drop n c.args.entries.now))
          (sym long) (nothing c.args.draw.key c.args.draw.order (is_counted c.args.is_new c.args.current c.args.played.now.keys)
          c.args.block c.args.dropped.now c.args.entries.now);
    }

-- the entry is the best
pub loop-at-preserved-then-is_counted : goal.loop-at-preserved-then-is_counted
loop-at-preserved-then-is_counted c =
    let entry : Entry = shown c.at-entry.result in
    let k = c.loop-at.at - 1 in
    let long = ap length c.ids-ids.ensures.ids ∙ length-map c.args.entries.now id_of in
    let within : k < length c.args.entries.now = omega arith in
    let here : get_or c.args.entries.now k entry ≡ entry = c.at-entry.ensures entry in
    let made : c.word-word.result ≡ word c.args.draw.key c.args.draw.order entry.id =
    c.word-word.ensures.word ∙ ap (λ (r : Round). word r.key r.order (get_or c.ids-ids.result.now k 0)) c.loop-at.invariant.round
    ∙ ap (λ n. word c.args.draw.key c.args.draw.order n)
    (id_at c.args.entries.now c.ids-ids.result.now k entry c.ids-ids.ensures.ids within ∙ ap id_of here) in
    let first : is_first (entry.id, entry.priority, c.word-word.result) c.loop-at.best ≡ true =
    ap (λ (e : Entry). is_first (e.id, e.priority, c.word-word.result) c.loop-at.best) (sym here)
    ∙ sym (c.goes_first.ensures entry) ∙ c.if-goes_first.true in
    record {
      round = c.word-word.ensures.round ∙ c.loop-at.invariant.round;
      best = ap (λ w. Some (entry.id, entry.priority, w)) made
          ∙ best_from-first c.args.draw.key c.args.draw.order (is_counted c.args.is_new c.args.current c.args.played.now.keys)
          c.args.block c.args.dropped.now k c.loop-at.at entry c.args.entries.now (omega arith) within (sym here) c.loop-at.best
          c.loop-at.invariant.best
          (ap (λ w. is_first (entry.id, entry.priority, w) c.loop-at.best) (sym made) ∙ first) (sym c.takes.ensures ∙ c.if-not-takes.true)
          (sym c.is_counted.ensures ∙ c.if-is_counted.true);
    }

-- the entry leaves, or does not count
pub loop-at-preserved-else-not-takes : goal.loop-at-preserved-else-not-takes
loop-at-preserved-else-not-takes c =
    let entry : Entry = shown c.at-entry.result in
    let k = c.loop-at.at - 1 in
    let counts = is_counted c.args.is_new c.args.current c.args.played.now.keys in
    let long = ap length c.ids-ids.ensures.ids ∙ length-map c.args.entries.now id_of in
    let within : k < length c.args.entries.now = omega arith in
    let here : entry ≡ get_or c.args.entries.now k entry = sym (c.at-entry.ensures entry) in
    record {
      round = c.word-word.ensures.round ∙ c.loop-at.invariant.round;
      best = elim c.else-not-takes.branch [
        | else-not-takes-via-then-not-takes+else-is_counted w ↦
            best_from-uncounted c.args.draw.key c.args.draw.order counts c.args.block c.args.dropped.now k c.loop-at.at
            entry c.args.entries.now (omega arith) within here c.loop-at.best c.loop-at.invariant.best
            (sym c.takes.ensures ∙ w.if-not-takes.true) (sym w.is_counted.ensures ∙ w.if-is_counted.false)
        | else-not-takes-via-else-not-takes w ↦
            best_from-leaves c.args.draw.key c.args.draw.order counts c.args.block c.args.dropped.now k c.loop-at.at
            entry c.args.entries.now (omega arith) within here c.loop-at.best c.loop-at.invariant.best
            (sym c.takes.ensures ∙ w.if-not-takes.false)
      ];
    }

-- the entry goes behind the best
pub loop-at-preserved : goal.loop-at-preserved
loop-at-preserved c =
    let k = c.loop-at.at - 1 in
    let none : Entry = record { id = 0; uri = []; priority = 0; stamp = 0 } in
    let entry : Entry = get_or c.args.entries.now k none in
    let counts = is_counted c.args.is_new c.args.current c.args.played.now.keys in
    let long = ap length c.ids-ids.ensures.ids ∙ length-map c.args.entries.now id_of in
    let within : k < length c.args.entries.now = omega arith in
    let made : c.word-word.result ≡ word c.args.draw.key c.args.draw.order entry.id =
    c.word-word.ensures.word ∙ ap (λ (r : Round). word r.key r.order (get_or c.ids-ids.result.now k 0)) c.loop-at.invariant.round
    ∙ ap (λ n. word c.args.draw.key c.args.draw.order n) (id_at c.args.entries.now c.ids-ids.result.now k none c.ids-ids.ensures.ids within) in
    record {
      round = c.word-word.ensures.round ∙ c.loop-at.invariant.round;
      best = best_from-behind c.args.draw.key c.args.draw.order counts c.args.block c.args.dropped.now k c.loop-at.at
          entry c.args.entries.now (omega arith) within (get_or_default c.args.entries.now k none entry within) c.loop-at.best
          c.loop-at.invariant.best
          (ap (λ w. is_first (entry.id, entry.priority, w) c.loop-at.best) (sym made) ∙ sym (c.goes_first.ensures none) ∙ c.if-goes_first.false);
    }
