-- Bytes that are written or read in parts.
use Rattle.std.proofs.Common.{◌≡◌, ℕ, ◌≤◌, List, [], ◌++◌, length, take, drop, Option, Some, None, refl, sym, subst, ◌∙◌, ap, arith}
use Rattle.std.proofs.Common.{append_assoc}
use Rattle.std.specs.Io.KnownBytes.{Appends, Keeps}
use Rattle.std.proofs.lemmas.List.{append-nil, take-append-drop, take-append-le}
use Rattle.std.proofs.Math.Seq.{take-length}
use Rattle.client_session.specs.Session.{SessionState}
use Rattle.client_session.proofs.ByteLaws.{appends_nothing, appends_twice, appends_kept}
use Rattle.mpd_program.specs.Serving.{WritesFront}

-- what was sent of a queue so far
pub record SentSoFar (all left : List ℕ) (first now : Option (List ℕ)) : Type 0 where
  pub sent : List ℕ
  pub parts : sent ++ left ≡ all
  pub appended : Appends first now sent

pub sent_more : (all left : List ℕ) (n : ℕ) (first now after : Option (List ℕ)) → SentSoFar all left first now
    → Appends now after (take n left) → SentSoFar all (drop n left) first after
sent_more all left n first now after far more = record {
  sent = far.sent ++ take n left;
  parts = append_assoc far.sent (take n left) (drop n left) ∙ ap (λ v. far.sent ++ v) (take-append-drop n left) ∙ far.parts;
  appended = appends_twice first now after far.sent (take n left) far.appended more;
}

-- nothing was written of these bytes, or all
pub front_none : (bytes : List ℕ) (first after : Option (List ℕ)) → Keeps first after → WritesFront bytes first after
front_none bytes first after kept =
    record { written = []; unwritten = bytes; parts = refl; appended = appends_kept first first after [] (appends_nothing first) kept }

pub front_all : (bytes : List ℕ) (first after : Option (List ℕ)) → Appends first after bytes → WritesFront bytes first after
front_all bytes first after all = record { written = bytes; unwritten = []; parts = append-nil bytes; appended = all }

-- all of these bytes, and then a front of more
pub front_behind : (earlier later : List ℕ) (first now after : Option (List ℕ)) → Appends first now earlier → WritesFront later now after
    → WritesFront (earlier ++ later) first after
front_behind earlier later first now after all front = record {
  written = earlier ++ front.written;
  unwritten = front.unwritten;
  parts = append_assoc earlier front.written front.unwritten ∙ ap (λ v. earlier ++ v) front.parts;
  appended = appends_twice first now after earlier front.written all front.appended;
}

-- only what is queued has changed since the first state
pub same_but_queued : (first old new : SessionState) (left : List ℕ) → old ≡ record first { queued = old.queued }
    → new ≡ record old { queued = left } → new ≡ record first { queued = new.queued }
same_but_queued first old new left before now =
    now ∙ ap (λ (s : SessionState). record s { queued = left }) before
    ∙ ap (λ (v : List ℕ). record first { queued = v }) (sym (ap (λ (s : SessionState). s.queued) now))

-- a buffer that was filled as a whole
pub refilled : (filled items : List ℕ) (n : ℕ) → length filled ≡ n → take n (filled ++ drop (length filled) items) ≡ filled
refilled filled items n whole =
    let within : n ≤ length filled = omega (arith, whole) in
    take-append-le n filled (drop (length filled) items) within ∙ ap (λ (k : ℕ). take k filled) (sym whole) ∙ take-length filled
