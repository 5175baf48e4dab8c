use Rattle.std.proofs.Common.{◌≡◌, ◌+◌, ℕ, true, false, nat_lt, refl, arith}
use Rattle.std.proofs.lemmas.Bool.{le-ltb, lt-ltb}
use Rattle.stored_lists.specs.Limits.{MAX_ENTRIES}
use Rattle.stored_lists.specs.Lists.{total, without_list}
use Rattle.stored_lists.proofs.Absent.{songs_or_none_present}
use Rattle.stored_lists.proofs.Counted.{counted_fits, total_without}
use Rattle.stored_lists.proofs.Replaced.{answered_none, replace_refused}
use Rattle.stored_lists.proofs.lists.Lists.check_replace.Goals as goal

pub overflow_sub-self-inside : goal.overflow_sub-self-inside
overflow_sub-self-inside c =
    omega (arith, c.len-old.ensures.count, counted_fits _ _ _ _ c.self.invariant (rw (← c.self.view_is) at c.in_ok-get.ensures.songs))

-- the others' entries with so many more would pass the limit
pub returns-then-self-old-clause-answer : goal.returns-then-self-old-clause-answer
returns-then-self-old-clause-answer c =
    let found = rw (← c.self.view_is) at c.in_ok-get.ensures.songs in
    let none = rw (← c.self.view_is) at (answered_none _ _ c.in_ok-get.ensures.answer) in
    let others = total_without _ _ _ _ c.self.invariant found in
    let sum : ℕ = total (without_list c.self.inside.lists c.args.name.now) + c.args.count in
    let full : nat_lt MAX_ENTRIES sum ≡ true =
    lt-ltb MAX_ENTRIES sum (omega (
      arith,
      others,
      c.len-old.ensures.count,
      c.if-self-old.true,
      c.self.invariant.counted,
      c.self.invariant.within.few_entries,
    )) in
    rw (← c.self.view_is, replace_refused _ _ c.args.count none, full) refl

pub returns-clause-answer : goal.returns-clause-answer
returns-clause-answer c =
    let found = rw (← c.self.view_is) at c.in_ok-get.ensures.songs in
    let none = rw (← c.self.view_is) at (answered_none _ _ c.in_ok-get.ensures.answer) in
    let others = total_without _ _ _ _ c.self.invariant found in
    let sum : ℕ = total (without_list c.self.inside.lists c.args.name.now) + c.args.count in
    let fits : nat_lt MAX_ENTRIES sum ≡ false =
    le-ltb MAX_ENTRIES sum (omega (
      arith,
      others,
      c.len-old.ensures.count,
      c.if-self-old.false,
      c.self.invariant.counted,
      c.self.invariant.within.few_entries,
    )) in
    rw (← c.self.view_is, replace_refused _ _ c.args.count none, fits) refl

pub returns-clause-fits : goal.returns-clause-fits
returns-clause-fits c =
    let found = rw (← c.self.view_is) at c.in_ok-get.ensures.songs in
    let others = total_without _ _ _ _ c.self.invariant found in
    rw (← c.self.view_is) (record {
      found = rw (songs_or_none_present _ _ _ found) found;
      few_entries =
          omega (
            arith,
            others,
            c.len-old.ensures.count,
            c.if-self-old.false,
            c.self.invariant.counted,
            c.self.invariant.within.few_entries,
          );
    })
