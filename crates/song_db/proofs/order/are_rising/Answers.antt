use Rattle.std.proofs.Common.{◌-◌, [], arith, rules}
use Rattle.std.specs.Cmp.Lexicographic.{nat_list_cmp_total}
use Rattle.std.proofs.lemmas.Map.Keys.{sorted_from_all_adjacent}
use Rattle.song_db.specs.Music.{uris_of}
use Rattle.song_db.proofs.Known.{not_rising}
use Rattle.song_db.proofs.KnownSongs.{rises_more, uri_at, uris_len}
use Rattle.song_db.proofs.order.are_rising.Goals as goal

pub returns-then-not-is_before : goal.returns-then-not-is_before
returns-then-not-is_before c = (
  λ no. absurd (cc),
  λ known. absurd (not_rising (uris_of c.args.known.now) (c.loop-at.at - 1) c.loop-at.at
      c.index-known-at.result.uri c.index-known-at-in-loop-at.result.uri known (omega arith) (omega (arith, uris_len c.args.known.now))
      (uri_at c.args.known.now (c.loop-at.at - 1) c.index-known-at.result c.index-known-at.is)
      (uri_at c.args.known.now c.loop-at.at c.index-known-at-in-loop-at.result c.index-known-at-in-loop-at.is)
      (rw (← c.index-known-at.is, ← c.index-known-at-in-loop-at.is) at c.if-not-is_before.ensures)),
)

pub returns : goal.returns
returns c = (
  λ yes. sorted_from_all_adjacent nat_list_cmp_total (uris_of c.args.known.now) [] (λ k below. c.loop-at.invariant k (omega (
    arith,
    uris_len c.args.known.now,
  ))),
  λ known. search rules,
)

pub loop-at-preserved : goal.loop-at-preserved
loop-at-preserved c = rises_more c.args.known.now c.loop-at.at c.index-known-at.result c.index-known-at-in-loop-at.result (omega arith)
    (omega arith) c.index-known-at.is c.index-known-at-in-loop-at.is
    (rw (← c.index-known-at.is, ← c.index-known-at-in-loop-at.is) at c.if-not-is_before.ensures) c.loop-at.invariant
