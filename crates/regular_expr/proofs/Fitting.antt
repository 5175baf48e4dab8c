-- A pattern isn't too large.
use Rattle.std.proofs.Common.{◌≡◌, ℕ, ◌≤◌, Bool, true, false, List, Option, Some, None, refl, subst}
use Rattle.std.specs.Prelude.{nat_le, if◌then◌else◌}
use Rattle.std.proofs.lemmas.Bool.{leb-true}
use Rattle.regular_expr.specs.Counts.{◌>>=◌}
use Rattle.regular_expr.specs.Reading.{Pattern, body_at, most_bodies, finished, fitting, is_nil, whole, said, behind_flag, read_behind, pattern_in}
use Rattle.regular_expr.specs.Shape.{Shape, leaves}

chosen_fits : (x : Bool) (shape p : Shape) → nat_le (leaves shape) 512 ≡ x → (if x then Some shape else None) ≡ Some p → leaves p ≤ 512
chosen_fits true shape p small e =
    let same : shape ≡ p = cc in
    subst (λ (s : Shape). leaves s ≤ 512) same (leb-true (leaves shape) 512 small)
chosen_fits false shape p small e = absurd (cc)

finished_fits : (x : Bool) (shape p : Shape) → (if x then fitting shape else None) ≡ Some p → leaves p ≤ 512
finished_fits true shape p e = chosen_fits (nat_le (leaves shape) 512) shape p refl e
finished_fits false shape p e = absurd (cc)

read_fits : (o : Option (Shape × List ℕ)) (p : Shape) → (o >>= finished) ≡ Some p → leaves p ≤ 512
read_fits None p e = absurd (cc)
read_fits (Some x) p e = finished_fits (is_nil x.1) x.0 p e

whole_fits : (text : List ℕ) (p : Shape) → whole text ≡ Some p → leaves p ≤ 512
unfolding whole
whole_fits text p e = read_fits (body_at most_bodies text) p e

said_fits : (caseless : Bool) (o : Option Shape) (p : Pattern) → ((s : Shape) → o ≡ Some s → leaves s ≤ 512)
    → (o >>= λ shape. Some (said caseless shape)) ≡ Some p → leaves p.shape ≤ 512
said_fits caseless None p fits e = absurd (cc)
said_fits caseless (Some s) p fits e =
    let same : said caseless s ≡ p = cc in
    subst (λ (q : Pattern). leaves q.shape ≤ 512) same (fits s refl)

read_behind_fits : (text : List ℕ) (o : Option (List ℕ)) (p : Pattern) → read_behind text o ≡ Some p → leaves p.shape ≤ 512
read_behind_fits text None p e = said_fits false (whole text) p (whole_fits text) e
read_behind_fits text (Some rest) p e = said_fits true (whole rest) p (whole_fits rest) e

pub pattern_fits : (text : List ℕ) (p : Pattern) → pattern_in text ≡ Some p → leaves p.shape ≤ 512
unfolding pattern_in
pattern_fits text p e = read_behind_fits text (behind_flag text) p e
