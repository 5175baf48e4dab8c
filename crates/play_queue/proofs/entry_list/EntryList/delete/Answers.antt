use Rattle.std.proofs.Common.{◌≡◌, ◌≤◌, length, take, drop, refl, ap, ◌∙◌, arith}
use Rattle.std.proofs.lemmas.List.{length-append, length-take-le}
use Rattle.play_queue.specs.Entries.{deleted}
use Rattle.play_queue.specs.Shuffle.{stamps_of}
use Rattle.play_queue.proofs.Bounds.{list-deleted}
use Rattle.play_queue.proofs.Stamped.{length-with_stamps, restamped-deleted}
use Rattle.play_queue.proofs.entry_list.EntryList.delete.Goals as goal

pub restamp-requires-clause-forward : goal.restamp-requires-clause-forward
restamp-requires-clause-forward c =
    let old = c.self.inside.entries in
    let within : c.args.end ≤ length old = rw (← c.self.view_is) at c.requires.in_range in
    let left : c.len-left.result ≡ length (deleted old c.args.start c.args.end) =
    c.len-left.ensures.len ∙ ap length c.delete.ensures
    ∙ length-with_stamps (stamps_of old) (deleted old c.args.start c.args.end) in
    omega (
      arith,
      left,
      length-append (take c.args.start old) (drop c.args.end old),
      length-take-le c.args.start old (omega (arith, within, c.requires.forward)),
    )

pub invariant_of-self : goal.invariant_of-self
invariant_of-self c =
    let old = c.self.inside.entries in
    let start = c.args.start in
    let end = c.args.end in
    let within : end ≤ length old = rw (← c.self.view_is) at c.requires.in_range in
    let left : c.len-left.result ≡ length (deleted old start end) =
    c.len-left.ensures.len ∙ ap length c.delete.ensures ∙ length-with_stamps (stamps_of old) (deleted old start end) in
    rw (
      c.restamp.ensures.entries,
      c.delete.ensures,
      restamped-deleted c.args.version start end c.len-left.result old c.requires.forward within left,
      left,
    )
    (list-deleted c.self.inside.latest c.restamp.new.latest c.args.version start end old c.requires.forward within c.self.invariant
    (rw left at c.restamp.ensures.latest))

pub returns-clause-entries : goal.returns-clause-entries
returns-clause-entries c =
    let old = c.self.inside.entries in
    let start = c.args.start in
    let end = c.args.end in
    let within : end ≤ length old = rw (← c.self.view_is) at c.requires.in_range in
    let left : c.len-left.result ≡ length (deleted old start end) =
    c.len-left.ensures.len ∙ ap length c.delete.ensures ∙ length-with_stamps (stamps_of old) (deleted old start end) in
    rw (
      ← c.self.view_is,
      c.restamp.ensures.entries,
      c.delete.ensures,
      restamped-deleted c.args.version start end c.len-left.result old c.requires.forward within left,
      left,
    ) refl
