use Rattle.std.proofs.Common.{ℕ, subst, sym, ◌≡◌, ◌∙◌, ◌<◌, ◌^◌, [], length, arith, rules, inl, inr, lit<}
use Rattle.std.specs.Prelude.{IsTrue, false}
use Rattle.std.proofs.lemmas.Bool.{cases_lt}
use Rattle.play_journal.specs.Content.{fresh}
use Rattle.play_journal.specs.JournalState.{content_in, IsKept, IsMeasured}
use Rattle.play_journal.proofs.InUseLaws.{laid_content, fresh_kept}
use Rattle.play_journal.proofs.MeasureLaws.{fresh_measured}
use Rattle.play_journal.proofs.PlaceLaws.{kept_now}
use Rattle.play_journal.proofs.journal.Journal.create.Goals as goal

short : (g : _) (c : goal.In-Ok g) → length (g.P.Pieces.left c.args.snapshot) < 2 ^ 32
short g c = elim (cases_lt 4294967295 (length (g.P.Pieces.left c.args.snapshot))) [
  | inl long ↦ let refused = c.in-Ok.ensures.too_long.1 long in absurd cc
  | inr fits ↦ omega arith
]

empty : (g : _) (c : goal.In-Ok g) → g.D.Disk.honest c.args.b → g.D.Disk.content c.fresh_journal.new.b ≡ []
empty g c b =
    let empty_b : IsTrue c.is_empty-else-not-is_empty.result = search rules in
    c.in-Ok.ensures.laid.other b ∙ (c.is_empty-else-not-is_empty.ensures b).0 empty_b

written : (g : _) (c : goal.In-Ok g) → g.D.Disk.honest c.args.a → g.D.Disk.honest c.args.b
    → IsKept (g.D.Disk.content c.fresh_journal.new.a) (g.D.Disk.content c.fresh_journal.new.b) (g.D.Disk.history c.fresh_journal.new.a)
    (g.D.Disk.history c.fresh_journal.new.b) c.in-Ok.end c.args.layout 1 0 0
    × (content_in (g.D.Disk.content c.fresh_journal.new.a) ≡ fresh c.args.layout (g.P.Pieces.left c.args.snapshot))
written g c a b =
    let here = c.in-Ok.ensures.laid.written a in (
      fresh_kept (g.D.Disk.content c.fresh_journal.new.a) (g.D.Disk.content c.fresh_journal.new.b) (g.P.Pieces.left c.args.snapshot)
          (g.D.Disk.history c.fresh_journal.new.a) (g.D.Disk.history c.fresh_journal.new.b) c.in-Ok.end
          c.args.layout c.requires.written here (empty g c b) c.in-Ok.ensures.end (short g c) (c.in-Ok.ensures.laid.settled.a a) (c.in-Ok.ensures.laid.settled.b b),
      laid_content (g.D.Disk.content c.fresh_journal.new.a) (g.P.Pieces.left c.args.snapshot) c.args.layout 1 0 c.requires.written here (lit< tt) (lit< tt) (short g c),
    )

pub invariant_of-result : goal.invariant_of-result
invariant_of-result g c = (
  c.in-Ok.ensures.room,
  lit< tt,
  λ usable a b. (written g c (c.fresh_journal.ensures.later.a.honesty.1 a) (c.fresh_journal.ensures.later.b.honesty.1 b)).0,
  λ usable a b. subst (λ (n : ℕ). IsMeasured (content_in (g.D.Disk.content c.fresh_journal.new.a)) n 0) (sym c.len-len.ensures)
      (fresh_measured _ c.args.layout (g.P.Pieces.left c.args.snapshot)
      (written g c (c.fresh_journal.ensures.later.a.honesty.1 a) (c.fresh_journal.ensures.later.b.honesty.1 b)).1),
)

pub returns-in-Ok-clause-kept : goal.returns-in-Ok-clause-kept
returns-in-Ok-clause-kept g c = λ a b. record {
  says = (written g c a b).1;
  kept = kept_now g.D.Disk.content g.D.Disk.history false c.fresh_journal.new.a c.fresh_journal.new.b c.in-Ok.end c.args.layout 1 0 0 (written g c a b).0;
}

pub returns-in-Ok-clause-empty : goal.returns-in-Ok-clause-empty
returns-in-Ok-clause-empty g c = λ a b. empty g c b
