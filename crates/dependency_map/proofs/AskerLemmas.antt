-- A code point that the index does not give asks nothing.
-- unasked       who is not listed under a question, and whose own one it is not, does not ask it
-- none_more     one more that does not pass
-- none_between  where none of a stretch passes, and none behind it may pass, none of both does
use Rattle.std.proofs.Common.{◌≡◌, ◌∙◌, ℕ, ◌+◌, ◌<◌, ◌≤◌, Bool, true, false, List, Option, Some, None, refl, sym, ap, arith, inl, inr}
use Rattle.std.proofs.lemmas.Bool.{cases_lt, true≢false, or_parts}
use Rattle.ucd_facts.specs.declared.query.Query.TheVariants.{Pair}
use Rattle.ucd_facts.specs.Answers.{is_asked}
use Rattle.ucd_facts.specs.declared.query.Query.{Query}
use Rattle.dependency_map.specs.Askers.{own_queries, asked_by, asks}
use Rattle.dependency_map.specs.Index.{is_own, is_listed, may_ask, keeps, Lists, NoneFrom}

-- a plain code point asks its own questions alone
own_is_asked : (q : Query) (c : ℕ) → is_own q c ≡ false → is_asked (own_queries c) q ≡ false
own_is_asked (Pair s y) c h = refl
own_is_asked _ c h = grind arith

kept_may_ask : (queries : List Query) (q : Query) (may b : Bool) → is_asked queries q ≡ b → (keeps (Some queries) q ≡ true → may ≡ true) → may ≡ false → is_asked queries q ≡ false
kept_may_ask queries q may true is lists not = absurd (true≢false (sym (lists is) ∙ not))
kept_may_ask queries q may false is lists not = is

unasked_by : (has : ℕ → Bool) (kept : Option (List Query)) (c : ℕ) (q : Query) → (keeps kept q ≡ true → may_ask has q c ≡ true) → may_ask has q c ≡ false → is_asked (asked_by c kept) q ≡ false
unasked_by has None c q lists h = own_is_asked q c (or_parts (is_listed has q c) (is_own q c) h).1
unasked_by has (Some queries) c q lists h = kept_may_ask queries q (may_ask has q c) (is_asked queries q) refl lists h

pub unasked : (has : ℕ → Bool) (kept : ℕ → Option (List Query)) → Lists has kept → (q : Query) (c : ℕ) → c < 1114112 → may_ask has q c ≡ false → asks (λ k. asked_by k (kept k)) q c ≡ false
unasked has kept lists q c inside h = unasked_by has (kept c) c q (lists c inside q) h

pub none_between : (p m : ℕ → Bool) (from start n : ℕ) → ((k : ℕ) → k < 1114112 → m k ≡ false → p k ≡ false) → n ≤ 1114112 → NoneFrom p from start → NoneFrom m start n → NoneFrom p from n
none_between p m from start n rest bound before after k low high = elim (cases_lt k start) [
  | inl lt ↦ before k low lt
  | inr ge ↦ rest k (omega arith) (after k ge high)
]

pub none_more : (p : ℕ → Bool) (from x : ℕ) → NoneFrom p from x → p x ≡ false → NoneFrom p from (x + 1)
none_more p from x before here k low high = elim (cases_lt k x) [
  | inl lt ↦ before k low lt
  | inr ge ↦ let at : k ≡ x = omega arith in ap p at ∙ here
]
