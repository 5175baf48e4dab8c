-- Who is notified of a message.
use Rattle.std.proofs.Common.{◌≡◌, ℕ, suc, ◌<◌, Bool, true, false, not, cond, ◌&&◌, ◌||◌, ◌==◌, List, [], ◌∷◌, ◌++◌, length, Some, None}
use Rattle.std.proofs.Common.{is_some, unwrap_or, refl, sym, ap, ◌∙◌, eqb-true, ne_eqb, arith}
use Rattle.std.specs.List.{AllByRecursion, cons_option, list_any}
use Rattle.std.proofs.lemmas.List.{length_push}
use Rattle.std.proofs.lemmas.List.Elements.{All-from_recursion, recursion_from_All, All-weaker}
use Rattle.std.proofs.lemmas.List.Folds.{list_any_none}
use Rattle.client_messages.specs.declared.listener.Listener.{Listener}
use Rattle.client_messages.specs.declared.message.Message.{Message}
use Rattle.client_messages.specs.Listeners.{newcomer, IsRising, listed, listener_of, takes, delivered, sent, has_read_all, notice_of, notified}
use Rattle.client_messages.proofs.ForItself.{sent_for}
use Rattle.client_messages.proofs.Rising.{all_notified_above}

-- the later clients have greater numbers, and so have those of them that are notified
none_after : (l : Listener) (ls : List Listener) (m : Message) (c : ℕ) → IsRising (l ∷ ls) → (l.client == c) ≡ true
    → list_any (λ d. d == c) (notified ls m) ≡ false
none_after l ls m c rising same =
    let later : AllByRecursion (λ k. l.client < k.client) ls =
    recursion_from_All (λ (k : Listener). l.client < k.client) ls (λ k d lt. rising 0 (suc k) d (omega arith) (omega arith)) in
    list_any_none (λ (d : ℕ). d == c) (notified ls m)
    (All-weaker (λ (d : ℕ). l.client < d) (λ (d : ℕ). (d == c) ≡ false)
    (λ d above. ne_eqb d c (λ (at : d ≡ c). absurd (omega (arith, above, at, eqb-true l.client c same))))
    (notified ls m) (All-from_recursion (λ (d : ℕ). l.client < d) (notified ls m) (all_notified_above l.client m ls later)))

notified_of : (ls : List Listener) (m : Message) (c : ℕ) → IsRising ls
    → list_any (λ d. d == c) (notified ls m) ≡ is_some (notice_of m (listener_of ls c))
notified_of [] m c rising = refl
notified_of (l ∷ ls) m c rising =
    by (l.client == c) refl (takes m l && (length l.unread == 0)) refl
    (notified_of ls m c (λ i j d lt in_range. rising (suc i) (suc j) d (omega arith) (omega arith)))
  where
    by : (e : Bool) → (l.client == c) ≡ e → (b : Bool) → (takes m l && (length l.unread == 0)) ≡ b
        → list_any (λ d. d == c) (notified ls m) ≡ is_some (notice_of m (listener_of ls c))
        → list_any (λ d. d == c) (cons_option (cond b (Some l.client) None) (notified ls m))
        ≡ is_some (notice_of m (unwrap_or (cond e (Some l) (listed ls c)) (newcomer c)))
    by true same true gets rest =
        ap (λ (x : Bool). x || list_any (λ d. d == c) (notified ls m)) same
        ∙ sym (ap (λ (x : Bool). is_some (cond x (Some l.client) None)) gets)
    by true same false past rest =
        none_after l ls m c rising same ∙ sym (ap (λ (x : Bool). is_some (cond x (Some l.client) None)) past)
    by false other true gets rest = ap (λ (x : Bool). x || list_any (λ d. d == c) (notified ls m)) other ∙ rest
    by false other false past rest = rest

-- a client alone
first_unread : (m : Message) (l : Listener) → is_some (notice_of m l) ≡ (has_read_all l && not (has_read_all (delivered m l)))
first_unread m l = by (takes m l) (length l.unread == 0) refl
  where
    by : (t e : Bool) → (length l.unread == 0) ≡ e
        → is_some (cond (t && e) (Some l.client) None)
        ≡ (e && not (has_read_all (cond t (record l { unread = l.unread ++ m ∷ [] }) l)))
    by true true is =
        sym (ap not (ne_eqb (length (l.unread ++ m ∷ [])) 0 (λ none. absurd (omega (arith, none, length_push l.unread m)))))
    by true false is = refl
    by false true is = sym (ap not is)
    by false false is = refl

pub notified_first : (ls : List Listener) (m : Message) (c : ℕ) → IsRising ls
    → list_any (λ d. d == c) (notified ls m) ≡ (has_read_all (listener_of ls c) && not (has_read_all (listener_of (sent ls m) c)))
notified_first ls m c rising =
    notified_of ls m c rising ∙ first_unread m (listener_of ls c)
    ∙ ap (λ (l : Listener). has_read_all (listener_of ls c) && not (has_read_all l)) (sym (sent_for ls m c))
