use Rattle.std.proofs.Common.{◌≡◌, ◌≤◌, ◌+◌, ◌-◌, ℕ, List, length, take, ap, ◌∙◌, arith}
use Rattle.std.proofs.lemmas.List.{take-take, length-take-le}
use Rattle.play_queue.specs.declared.entry.Entry.{Entry}
use Rattle.play_queue.proofs.song_list.SongList.truncate.Goals as goal

one_less : (old now : List Entry) (m : ℕ) → m ≤ length old → now ≡ take m old → take (length now - 1) now ≡ take (m - 1) old
one_less old now m fits is = rw (is, length-take-le m old fits) (take-take (m - 1) m old (omega arith))

pub loop-preserved : goal.loop-preserved
loop-preserved c =
    let old = c.args.self.now in
    let next : (length old - (c.loop.counter - c.args.count)) - 1 ≡ length old - (c.loop.counter + 1 - c.args.count) =
    omega (arith, c.loop.auto.counter) in (
      c.remove_last.ensures ∙ one_less old c.loop.self (length old - (c.loop.counter - c.args.count)) (omega arith) c.loop.invariant.0
          ∙ ap (λ n. take n old) next,
      c.loop.invariant.1,
    )

pub returns : goal.returns
returns c =
    let all = c.loop.auto.counter-end (omega (arith, c.loop.invariant.1)) in
    c.renew.ensures ∙ c.loop.invariant.0 ∙ ap (λ n. take n c.args.self.now) (omega (arith, all, c.loop.invariant.1, c.loop.auto.counter))
