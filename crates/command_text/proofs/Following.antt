-- What stands next in the bytes of a line: blanks, a word without quotes, a word in quotes.
use Rattle.std.proofs.Common.{◌≡◌, ℕ, zero, suc, ◌+◌, ◌-◌, ◌<◌, ◌≤◌, List, [], ◌∷◌, ◌++◌, length, take, drop, get_or, Bool, true, false}
use Rattle.std.proofs.Common.{◌||◌, ◌&&◌, not, ◌==◌, Option, Some, None, refl, sym, ◌∙◌, ap, subst, append_assoc, arith}
use Rattle.std.proofs.lemmas.List.{take-append-drop, length-drop, append-nil}
use Rattle.std.proofs.lemmas.Bool.Decides.{Decides-eqb}
use Rattle.std.specs.Option.{unwrap_or, option_map}
use Rattle.std.specs.List.{list_all}
use Rattle.memchr.specs.Find.{IsFirstByte, is_byte3}
use Rattle.command_text.specs.Words.{quote, is_blank, is_plain, words_from, then_words}
use Rattle.command_text.specs.NextWord.{IsClosedAt, IsNext, IsNextOf, IsNextInQuotes, unescaped}
use Rattle.command_text.specs.Words.Standing.{Between, Plain, Quoted, Closed}
use Rattle.command_text.specs.declared.words.Next.{Next}
use Rattle.command_text.specs.declared.words.Next.TheVariants.{End, Found, Bad}
use Rattle.command_text.proofs.Lists.{drop_at, all_before}
use Rattle.command_text.proofs.Parting.{blank_step, bare_begins, plain_run, bare_ends, bare_stops, bare_bad, quote_begins, closed_ends}
use Rattle.command_text.proofs.Parting.{closed_stops, closed_bad}
use Rattle.command_text.proofs.Searches.{behind, behind_is}

pub blank_at : (s : List ℕ) (i : ℕ) → i < length s → is_blank (get_or s i 0) ≡ true
    → words_from Between (drop (i + 1) s) ≡ words_from Between (drop i s)
blank_at s i lt h = sym (ap (words_from Between) (drop_at s i lt) ∙ blank_step (get_or s i 0) (drop (i + 1) s) h)

-- what ends a word without quotes
abbrev pub is_stop : ℕ → Bool
is_stop c = is_blank c || c == quote

-- the first place of a list that ends a word without quotes, or its end
pub record Stops (s : List ℕ) (n : ℕ) : Type 0 where
  pub within : n ≤ length s
  pub plain : list_all is_plain (take n s) ≡ true
  pub stop : n < length s → is_stop (get_or s n 0) ≡ true

not_stop : (a b : Bool) → ((a || b) ≡ true → ⊥) → (not a && not b) ≡ true
not_stop true b n = absurd (n refl)
not_stop false true n = absurd (n refl)
not_stop false false n = refl

pub stops_at : (s : List ℕ) (r : Option ℕ) (n : ℕ) → IsFirstByte (is_byte3 32 9 34) s r → n ≡ unwrap_or r (length s) → Stops s n
stops_at s None n none e = subst (Stops s) (sym e) (record {
  within = omega arith;
  plain = all_before is_plain s (length s) (omega arith)
      (λ k h. not_stop (is_blank (get_or s k 0)) (get_or s k 0 == quote) (none k (omega arith) h));
  stop = λ h. absurd (omega arith);
})
stops_at s (Some m) n found e = subst (Stops s) (sym e) (record {
  within = omega (arith, found.0.high);
  plain = all_before is_plain s m (omega (arith, found.0.high))
      (λ k h. not_stop (is_blank (get_or s k 0)) (get_or s k 0 == quote) (found.0.before k (omega arith) h));
  stop = λ h. found.1;
})

pub begins : (s : List ℕ) → 0 < length s → is_plain (get_or s 0 0) ≡ true → words_from Between s ≡ words_from (Plain []) s
begins [] h p = absurd (omega arith)
begins (c ∷ s) h p = bare_begins c s p

run_to : (s : List ℕ) (n : ℕ) → Stops s n → 0 < length s → is_plain (get_or s 0 0) ≡ true
    → words_from Between s ≡ words_from (Plain (take n s)) (drop n s)
run_to s n stops h p =
    begins s h p ∙ ap (words_from (Plain [])) (sym (take-append-drop n s)) ∙ plain_run [] (take n s) (drop n s) stops.plain

pub bare_refused : (s : List ℕ) (n : ℕ) → Stops s n → 0 < length s → is_plain (get_or s 0 0) ≡ true → n < length s → get_or s n 0 ≡ quote
    → words_from Between s ≡ None
bare_refused s n stops h p lt e =
    run_to s n stops h p ∙ ap (words_from (Plain (take n s))) (drop_at s n lt ∙ ap (λ (c : ℕ). c ∷ drop (n + 1) s) e)
    ∙ bare_bad (take n s) (drop (n + 1) s)

plain_stops : (a b : Bool) → (not a && not b) ≡ true → (a || b) ≡ true → ⊥
plain_stops true b p q = cc
plain_stops false true p q = cc
plain_stops false false p q = cc

moves : (s : List ℕ) (n : ℕ) → Stops s n → 0 < length s → is_plain (get_or s 0 0) ≡ true → 0 < n
moves s zero stops h p = absurd (plain_stops (is_blank (get_or s 0 0)) (get_or s 0 0 == quote) p (stops.stop h))
moves s (suc n) stops h p = omega arith

or_left : (a b : Bool) → (a || b) ≡ true → (b ≡ true → ⊥) → a ≡ true
or_left true b e n = refl
or_left false b e n = absurd (n e)

pub rest_goes_on : (word rest : List ℕ) → (0 < length rest → is_blank (get_or rest 0 0) ≡ true)
    → words_from (Plain word) rest ≡ then_words word (words_from Between rest)
rest_goes_on word [] h = bare_ends word
rest_goes_on word (c ∷ rest) h = bare_stops word c rest (h (omega arith))

pub bare_found : (s : List ℕ) (n : ℕ) → Stops s n → 0 < length s → is_plain (get_or s 0 0) ≡ true
    → (n < length s → get_or s n 0 ≡ quote → ⊥)
    → (words_from Between s ≡ then_words (take n s) (words_from Between (drop n s))) × (length (drop n s) < length s)
bare_found s n stops h p no_quote =
    let some : 0 < n = moves s n stops h p in
    let blank : 0 < length (drop n s) → is_blank (get_or (drop n s) 0 0) ≡ true = λ more.
    let lt : n < length s = omega (arith, length-drop n s) in
    let e : drop n s ≡ get_or s n 0 ∷ drop (n + 1) s = drop_at s n lt in
    ap (λ (l : List ℕ). is_blank (get_or l 0 0)) e
    ∙ or_left (is_blank (get_or s n 0)) (get_or s n 0 == quote) (stops.stop lt) (λ q. no_quote lt ((Decides-eqb (get_or s n 0) 34).0 q)) in
    (run_to s n stops h p ∙ rest_goes_on (take n s) (drop n s) blank, omega (arith, length-drop n s))

pub closed_rest : (word rest : List ℕ) → (0 < length rest → is_blank (get_or rest 0 0) ≡ true)
    → words_from (Closed word) rest ≡ then_words word (words_from Between rest)
closed_rest word [] h = closed_ends word
closed_rest word (c ∷ rest) h = closed_stops word c rest (h (omega arith))

closed_refused : (word rest : List ℕ) → 0 < length rest → is_blank (get_or rest 0 0) ≡ false → words_from (Closed word) rest ≡ None
closed_refused word [] h b = absurd (omega arith)
closed_refused word (c ∷ rest) h b = closed_bad word c rest b

-- the word in quotes that ends at this place
pub quoted_found : (inside : List ℕ) (end : ℕ) → IsClosedAt inside end
    → (0 < length (behind inside (end + 1)) → is_blank (get_or (behind inside (end + 1)) 0 0) ≡ true)
    → (words_from (Quoted []) inside ≡ then_words (unescaped (take end inside)) (words_from Between (behind inside (end + 1))))
    × (length (behind inside (end + 1)) < length inside)
quoted_found inside end at blank =
    let e : drop (end + 1) inside ≡ behind inside (end + 1) = sym (behind_is inside (end + 1)) in
    let shorter : length (behind inside (end + 1)) ≡ length inside - (end + 1) =
    ap length (behind_is inside (end + 1)) ∙ length-drop (end + 1) inside in
    let within : end < length inside = at.within in (
      at.closed ∙ ap (words_from (Closed (unescaped (take end inside)))) e
          ∙ closed_rest (unescaped (take end inside)) (behind inside (end + 1)) blank,
      omega arith,
    )

pub quoted_refused : (inside : List ℕ) (end : ℕ) → IsClosedAt inside end → 0 < length (behind inside (end + 1))
    → is_blank (get_or (behind inside (end + 1)) 0 0) ≡ false → words_from (Quoted []) inside ≡ None
quoted_refused inside end at more b =
    let e : drop (end + 1) inside ≡ behind inside (end + 1) = sym (behind_is inside (end + 1)) in
    at.closed ∙ ap (words_from (Closed (unescaped (take end inside)))) e
    ∙ closed_refused (unescaped (take end inside)) (behind inside (end + 1)) more b

-- the same of the two parts that a line was parted into
pub bare_part_refused : (s rest : List ℕ) (n : ℕ) → Stops s n → 0 < length s → is_plain (get_or s 0 0) ≡ true → rest ≡ drop n s
    → 0 < length rest → get_or rest 0 0 ≡ quote → words_from Between s ≡ None
bare_part_refused s rest n stops h p r more e =
    let lt : n < length s = omega (arith, more, ap length r, length-drop n s) in
    let at : get_or s n 0 ≡ get_or rest 0 0 = sym (ap (λ (l : List ℕ). get_or l 0 0) (r ∙ drop_at s n lt)) in
    bare_refused s n stops h p lt (at ∙ e)

pub bare_part_found : (s text rest : List ℕ) (n : ℕ) → Stops s n → 0 < length s → is_plain (get_or s 0 0) ≡ true → text ≡ take n s
    → rest ≡ drop n s → (0 < length rest → get_or rest 0 0 ≡ quote → ⊥)
    → (words_from Between s ≡ then_words text (words_from Between rest)) × (length rest < length s)
bare_part_found s text rest n stops h p t r no_quote =
    let none : n < length s → get_or s n 0 ≡ quote → ⊥ = λ lt e.
    let more : 0 < length rest = omega (arith, ap length r, length-drop n s) in
    let at : get_or rest 0 0 ≡ get_or s n 0 = ap (λ (l : List ℕ). get_or l 0 0) (r ∙ drop_at s n lt) in
    no_quote more (at ∙ e) in
    let found = bare_found s n stops h p none in
    rw (t, r) found

pub nothing_left : (s rest : List ℕ) → words_from Between rest ≡ words_from Between s → rest ≡ [] → words_from Between s ≡ Some []
unfolding words_from
nothing_left s rest same e = sym same ∙ ap (words_from Between) e

-- what stands next does not depend on what was passed over
next_longer : (words passed : Option (List (List ℕ))) (a b : List ℕ) (next : Next) → passed ≡ words → length a ≤ length b
    → IsNextOf words a next → IsNextOf passed b next
next_longer words passed a b End e le h = e ∙ h
next_longer words passed a b (Found word rest) e le h = (e ∙ h.0, omega (arith, h.1))
next_longer words passed a b Bad e le h = e ∙ h

pub next_in_quotes : (bytes rest : List ℕ) (next : Next) → words_from Between rest ≡ words_from Between bytes → length rest ≤ length bytes
    → 0 < length rest → get_or rest 0 0 ≡ quote
    → IsNextInQuotes (behind rest 1) next → IsNext bytes next
next_in_quotes bytes rest next same le more e h =
    let first : drop 0 rest ≡ quote ∷ drop 1 rest = drop_at rest 0 more ∙ ap (λ (c : ℕ). c ∷ drop 1 rest) e in
    let words : words_from Between bytes ≡ words_from (Quoted []) (behind rest 1) =
    sym same ∙ ap (words_from Between) first ∙ quote_begins (drop 1 rest) ∙ ap (words_from (Quoted [])) (sym (behind_is rest 1)) in
    next_longer (words_from (Quoted []) (behind rest 1)) (words_from Between bytes) (behind rest 1) bytes next words
    (omega (arith, ap length (behind_is rest 1), length-drop 1 rest)) h

-- the words so far, and those behind
abbrev pub after_words : List (List ℕ) → Option (List (List ℕ)) → Option (List (List ℕ))
after_words words read = option_map (λ more. words ++ more) read

pub goes_on : (words : List (List ℕ)) (word : List ℕ) (read rest all : Option (List (List ℕ))) → read ≡ then_words word rest
    → after_words words read ≡ all → after_words (words ++ word ∷ []) rest ≡ all
goes_on words word read None all e h = sym (ap (after_words words) e) ∙ h
goes_on words word read (Some more) all e h = ap (λ (l : List (List ℕ)). Some l) (append_assoc words (word ∷ []) more)
    ∙ sym (ap (after_words words) e) ∙ h

pub no_more : (words : List (List ℕ)) (read all : Option (List (List ℕ))) → read ≡ Some [] → after_words words read ≡ all → all ≡ Some words
no_more words read all e h = sym h ∙ ap (after_words words) e ∙ ap (λ (l : List (List ℕ)). Some l) (append-nil words)

pub no_words : (words : List (List ℕ)) (read all : Option (List (List ℕ))) → read ≡ None → after_words words read ≡ all → all ≡ None
no_words words read all e h = sym h ∙ ap (after_words words) e
