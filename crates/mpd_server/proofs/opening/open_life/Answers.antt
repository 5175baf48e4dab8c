use Rattle.mpd_server.proofs.opening.open_life.Goals as goal

pub returns-in-Ok-clause-opened : goal.returns-in-Ok-clause-opened
returns-in-Ok-clause-opened g c = λ ha hb.
    let was = c.in-Ok.ensures in
    record {
      gives = was.found ha hb;
      any_moment = was.any_moment ha hb;
      kept = was.kept ha hb;
      numbers = was.numbers ha hb;
      opens = λ all. tt;
      fault = was.fault;
    }

pub returns-in-Err-clause-refused : goal.returns-in-Err-clause-refused
returns-in-Err-clause-refused g c =
    let was = c.in-Err.ensures in
    rw (c.refused.ensures.a, c.refused.ensures.b)
    (record {
      error = c.in-Err.refused.error;
      refusal = was.nothing_else;
      told = c.refused.ensures.ending;
      reason = λ ha hb. record {
        gives = was.cause ha hb;
        any_moment = was.any_moment ha hb;
        kept = tt;
        numbers = tt;
        opens = was.opens ha hb;
        fault = was.fault ha hb;
      };
    })
