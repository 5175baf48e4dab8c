use Rattle.std.proofs.Common.{◌≡◌, ℕ, zero, suc, ◌-◌, ◌<◌, ◌∷◌, ◌++◌, [], List, Err, ◌∙◌, ap, sym, refl, append_assoc, arith}
use Rattle.std.proofs.lemmas.List.{append-nil}
use Rattle.live_stage.specs.declared.refusal.LiveError.{LiveError}
use Rattle.live_stage.specs.GroupRun.{refusals}
use Rattle.live_stage.proofs.GroupLaws.{Reply}
use Rattle.live_stage.proofs.group_run.refuse_each.Goals as goal

one_less : (n m : ℕ) (e : LiveError) → 0 < n → m ≡ n - 1 → Err e ∷ refusals m e ≡ refusals n e
one_less zero m e some is = absurd (omega (arith, some))
one_less (suc n) m e some is = ap (λ (k : ℕ). Err e ∷ refusals k e) (omega (arith, is))

none_left : (n : ℕ) (e : LiveError) (now all : List Reply) → n ≡ 0 → now ++ refusals n e ≡ all → now ≡ all
none_left zero e now all none is = sym (append-nil now) ∙ is
none_left (suc n) e now all none is = absurd (omega (arith, none))
