use Rattle.std.proofs.Common.{rules}
use Rattle.mpd_server.proofs.life.work.Goals as goal

-- the closure's clauses are the bounds of the types
pub scoped-requires : goal.scoped-requires
scoped-requires g c = let t = c.type_bounds in record {
  at = λ a. (
    search rules,
    (
      (search rules, search rules),
      (
        (search rules, search rules),
        (
          (search rules, search rules),
          ((search rules, search rules), ((search rules, search rules), (search rules, (search rules, search rules)))),
        ),
      ),
    ),
  );
}
