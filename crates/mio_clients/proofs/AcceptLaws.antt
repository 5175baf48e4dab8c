-- Clients that connect, in several steps.
use Rattle.std.proofs.Common.{◌≡◌, ◌≢◌, ◌⊎◌, ℕ, ◌-◌, ◌^◌, List, [], ◌∷◌, ◌++◌, ◌||◌, Bool, true, false, Result, Ok, Err, IfErr, inl, inr, refl, sym, subst, ◌∙◌, ap}
use Rattle.mio_clients.specs.Connections.{ConnectionsState, IsFull}
use Rattle.mio_clients.specs.declared.refusal.ClientsError.{ClientsError}
use Rattle.mio_clients.specs.declared.refusal.ClientsError.TheVariants.{NoMemory, TooManyClients}
use Rattle.mio_clients.specs.declared.clients.Admission.{Admission}
use Rattle.mio_clients.specs.declared.clients.Admission.TheVariants.{Taken, Unwatched, Refused}
use Rattle.mio_clients.specs.Yielding.{AcceptsAll, Arrival, ComesTo, IsFirstToYield, MakesRoom, NoneGivesWay, TellsOf, has_refused, was_refused}

-- the refusals of which one at most was met
pub refused_is : (result : Result (Unit {0}) ClientsError) (P : Type 0) → (result ≡ Ok tt) ⊎ ((result ≡ Err TooManyClients) × P)
    → IfErr result (λ e. (e ≡ NoMemory) ⊎ (e ≡ TooManyClients))
refused_is (Ok u) P h = tt
refused_is (Err e) P (inl ok) = absurd (cc (ok))
refused_is (Err e) P (inr full) = inr (cc (full.0))

or_true : (x y : Bool) → y ≡ true → (x || y) ≡ true
or_true true y is = refl
or_true false y is = is

or_false : (x y : Bool) → y ≡ false → (x || y) ≡ x
or_false true y is = refl
or_false false y is = is

or_twice : (x y z : Bool) → (x || (y || z)) ≡ ((x || y) || z)
or_twice true y z = refl
or_twice false y z = refl

pub is_admission : (came : Admission) → was_refused came ≡ true → came ≡ Refused
is_admission Taken is = absurd (cc is)
is_admission Unwatched is = absurd (cc is)
is_admission Refused is = refl

module _ {S : Type 0} where
  pub full_room : (a b : ConnectionsState S) → MakesRoom a b → IsFull a → IsFull b
  full_room a b same full = subst (λ (s : ConnectionsState S). IsFull s) (sym same) full

  -- somebody gives way to a client, and the numbers of clients are not spent
  pub one_gives_way : (remote : S → Bool) (stream : S) (a : ConnectionsState S) (key : ℕ) → IsFirstToYield remote (remote stream) a key
      → a.last_id ≢ 2 ^ 64 - 1 → NoneGivesWay remote stream a → ⊥
  one_gives_way remote stream a key first unspent (inl none) = none key first.client first.there first.may
  one_gives_way remote stream a key first unspent (inr spent) = unspent spent

  makes_twice : (a b c : ConnectionsState S) → MakesRoom a b → MakesRoom b c → MakesRoom a c
  makes_twice a b c p q = q ∙ ap (λ (s : ConnectionsState S). record s { room = c.room; places = c.places }) p

  has_end : (arrivals : List (Arrival S)) (one : Arrival S) → has_refused (arrivals ++ one ∷ []) ≡ (has_refused arrivals || was_refused one.came)
  has_end [] one = or_false (was_refused one.came) false refl
  has_end (first ∷ others) one =
      ap (λ (t : Bool). was_refused first.came || t) (has_end others one)
      ∙ or_twice (was_refused first.came) (has_refused others) (was_refused one.came)

module _ {S : Type 0} (remote : S → Bool) where
  -- room was made behind all others
  pub all_made : (arrivals : List (Arrival S)) (a b m : ConnectionsState S) → AcceptsAll remote arrivals a b → MakesRoom b m
      → AcceptsAll remote arrivals a m
  all_made [] a b m p room = makes_twice a b m p room
  all_made (one ∷ others) a b m p room = (p.0, p.1, all_made others one.after b m p.2 room)

  -- one more connected
  pub all_more : (arrivals : List (Arrival S)) (stream : S) (came : Admission) (a b m c : ConnectionsState S) → AcceptsAll remote arrivals a b
      → MakesRoom b m → ComesTo remote stream came m c
      → AcceptsAll remote (arrivals ++ (record { stream = stream; came = came; before = m; after = c }) ∷ []) a c
  all_more [] stream came a b m c p room comes = (makes_twice a b m p room, comes, refl)
  all_more (one ∷ others) stream came a b m c p room comes = (p.0, p.1, all_more others stream came one.after b m c p.2 room comes)

  -- one more connected, and was closed since none gave way to it
  pub next_refused : (result : Result (Unit {0}) ClientsError) (arrivals : List (Arrival S)) (stream : S) (came : Admission)
      (a b m c : ConnectionsState S) → AcceptsAll remote arrivals a b → MakesRoom b m → ComesTo remote stream came m c
      → result ≡ Err TooManyClients → was_refused came ≡ true
      → (more : List (Arrival S)) × AcceptsAll remote more a c × TellsOf result (has_refused more)
  next_refused result arrivals stream came a b m c p room comes is refused =
      let one : Arrival S = record { stream = stream; came = came; before = m; after = c } in (
        arrivals ++ one ∷ [],
        all_more arrivals stream came a b m c p room comes,
        subst (λ (r : Result (Unit {0}) ClientsError). TellsOf r (has_refused (arrivals ++ one ∷ []))) (sym is)
            (has_end arrivals one ∙ or_true (has_refused arrivals) (was_refused came) refused),
      )

  -- one more connected, and was not
  pub next_other : (before result : Result (Unit {0}) ClientsError) (arrivals : List (Arrival S)) (stream : S) (came : Admission)
      (a b m c : ConnectionsState S) → AcceptsAll remote arrivals a b → MakesRoom b m → ComesTo remote stream came m c
      → result ≡ before → was_refused came ≡ false → TellsOf before (has_refused arrivals)
      → (more : List (Arrival S)) × AcceptsAll remote more a c × TellsOf result (has_refused more)
  next_other before result arrivals stream came a b m c p room comes is taken tells =
      let one : Arrival S = record { stream = stream; came = came; before = m; after = c } in (
        arrivals ++ one ∷ [],
        all_more arrivals stream came a b m c p room comes,
        subst (λ (r : Result (Unit {0}) ClientsError). TellsOf r (has_refused (arrivals ++ one ∷ []))) (sym is)
            (subst (λ (t : Bool). TellsOf before t) (sym (has_end arrivals one ∙ or_false (has_refused arrivals) (was_refused came) taken)) tells),
      )

  -- none did
  pub next_none : (before result : Result (Unit {0}) ClientsError) (arrivals : List (Arrival S)) (a b m : ConnectionsState S)
      → AcceptsAll remote arrivals a b → MakesRoom b m → result ≡ before → TellsOf before (has_refused arrivals)
      → (more : List (Arrival S)) × AcceptsAll remote more a m × TellsOf result (has_refused more)
  next_none before result arrivals a b m p room is tells = (
    arrivals,
    all_made arrivals a b m p room,
    subst (λ (r : Result (Unit {0}) ClientsError). TellsOf r (has_refused arrivals)) (sym is) tells,
  )

  pub none_yet : (a : ConnectionsState S) → (arrivals : List (Arrival S)) × AcceptsAll remote arrivals a a × TellsOf (Ok tt) (has_refused arrivals)
  none_yet a = ([], refl, refl)
