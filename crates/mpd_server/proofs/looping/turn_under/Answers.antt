use Rattle.std.proofs.Common.{◌≡◌, ℕ, ◌∙◌, Bool, true, Option, ap, subst, is_some}
use Rattle.std.specs.Prelude.{Result, Ok, Err, IfOk}
use Rattle.profile.specs.declared.profile.Profile.TheVariants.{Wide}
use Rattle.mio_clients.specs.Parts.{looks_in, IsServedAll, IsWithin}
use Rattle.mpd_server.specs.Turns.{turn_bound}
use Rattle.mpd_server.proofs.looping.turn_under.Goals as goal

-- by what is more than was wanted
of_more : {A E : Type 0} (P : A → Type 0) (wide : Type 0) (bounded : Bool) → (wide → bounded ≡ true) → (r : Result A E)
    → IfOk r (λ a. bounded ≡ true → P a) → IfOk r (λ a. wide → P a)
of_more P wide bounded has (Ok a) h = λ is. h (has is)
of_more P wide bounded has (Err e) h = tt

pub returns-clause-all : goal.returns-clause-all
returns-clause-all g c =
    subst (λ (b : Option ℕ). IfOk c.turn_within.result (λ r. IsWithin b (looks_in r.0.items) → IsServedAll b r.0.items c.turn_within.new.self.events))
    c.turn_bound.ensures c.turn_within.ensures.all

pub returns-clause-closed : goal.returns-clause-closed
returns-clause-closed g c =
    of_more _ (c.args.profile ≡ Wide) (is_some c.turn_bound.result) (λ is. ap is_some (c.turn_bound.ensures ∙ ap turn_bound is))
    c.turn_within.result c.turn_within.ensures.closed
