-- A block is changed, and no two blocks have one page then.
use Rattle.std.proofs.Common.{◌≡◌, ◌≢◌, ℕ, ◌+◌, ◌*◌, ◌/◌, ◌%◌, ◌<◌, ◌⊎◌, inl, inr, Bool, true, false, leb, ◌&&◌, ◌||◌, cond, List, length, set, refl, sym, ap, subst, ◌∙◌, arith, get_or-set_same, get_or-set_other}
use Rattle.std.proofs.lemmas.Bool.{cases_eq, cases_Bool, or_cases, true≢false, eq-eqb, or_parts, or_right, or_left}
use Rattle.std.proofs.lemmas.Bool.Decides.{nat_tests}
use Rattle.std.proofs.Math.ListN.{length-set}
use Rattle.page_pool.specs.Pool.{Pool, is_live, word_of}
use Rattle.paged_table.specs.declared.block.Block.{Block}
use Rattle.paged_table.specs.declared.block.Block.TheVariants.{One, Page}
use Rattle.paged_table.specs.Blocks.{block_at, value_of, values, is_page, IsEven}
use Rattle.paged_table.specs.Puts.{StaysPage, Puts}
use Rattle.paged_table.specs.Layers.{IsApart, IsUnused, uses}
use Rattle.range_table.specs.Values.{with_span}

-- a page of another block is none of this block's
pub apart_of : (pool : Pool) (xs ys : List Block) (b d p : ℕ) → IsApart pool xs ys → d ≢ b → uses xs ys d p ≡ true → (is_page p (block_at xs b) ≡ false) × (is_page p (block_at ys b) ≡ false)
apart_of pool xs ys b d p ok differs used =
    elim (cases_Bool (uses xs ys b p)) [
      | inl both ↦ absurd (differs (sym (ok.apart b d p both used)))
      | inr none ↦ or_parts (is_page p (block_at xs b)) (is_page p (block_at ys b)) none
    ]

pub set_here : (ys : List Block) (b : ℕ) (r : Block) → b < length ys → block_at (set ys b r) b ≡ r
set_here ys b r lt = get_or-set_same ys b r (One 0) lt

pub set_there : (ys : List Block) (b d : ℕ) (r : Block) → d ≢ b → block_at (set ys b r) d ≡ block_at ys d
set_there ys b d r differs = get_or-set_other ys b d r (One 0) differs

uses_here : (xs ys : List Block) (b : ℕ) (r : Block) (p : ℕ) → b < length ys → uses xs (set ys b r) b p ≡ true → (is_page p (block_at xs b) ≡ true) ⊎ (is_page p r ≡ true)
uses_here xs ys b r p lt used =
    or_cases (is_page p (block_at xs b)) (is_page p r) (subst (λ z. (is_page p (block_at xs b) || is_page p z) ≡ true) (set_here ys b r lt) used)

uses_there : (xs ys : List Block) (b d : ℕ) (r : Block) (p : ℕ) → d ≢ b → uses xs (set ys b r) d p ≡ true → uses xs ys d p ≡ true
uses_there xs ys b d r p differs used =
    subst (λ z. (is_page p (block_at xs d) || is_page p z) ≡ true) (set_there ys b d r differs) used

none_here : (xs ys : List Block) (b : ℕ) (r : Block) (p : ℕ) → b < length ys → uses xs (set ys b r) b p ≡ false → (is_page p (block_at xs b) ≡ false) × (is_page p r ≡ false)
none_here xs ys b r p lt none =
    or_parts (is_page p (block_at xs b)) (is_page p r) (subst (λ z. (is_page p (block_at xs b) || is_page p z) ≡ false) (set_here ys b r lt) none)

none_there : (xs ys : List Block) (b d : ℕ) (r : Block) (p : ℕ) → d ≢ b → uses xs (set ys b r) d p ≡ false → uses xs ys d p ≡ false
none_there xs ys b d r p differs none =
    subst (λ z. (is_page p (block_at xs d) || is_page p z) ≡ false) (set_there ys b d r differs) none

even_back : (pool pool' : Pool) (p : ℕ) → ((a : ℕ) → a < 256 → word_of pool' p a ≡ word_of pool p a) → IsEven (word_of pool' p) → IsEven (word_of pool p)
even_back pool pool' p same even a b la lb = sym (same a la) ∙ even a b la lb ∙ same b lb

module _ (pool pool' : Pool) (xs ys : List Block) (b : ℕ) (r : Block) (lo hi v : ℕ) (ok : IsApart pool xs ys) (inside : b < 4352) (puts : Puts pool pool' (block_at xs b) (block_at ys b) r lo hi v) where
  below : b < length ys
  below = let n = ok.count_next in omega arith

  stays : (d p : ℕ) → d ≢ b → uses xs ys d p ≡ true → StaysPage pool pool' p
  stays d p differs used =
      let other = apart_of pool xs ys b d p ok differs used in
      puts.others_stay p other.0 other.1 (ok.live d p used)

  missing : (d p : ℕ) → d ≢ b → uses xs ys d p ≡ true → uses xs (set ys b r) b p ≡ true → ⊥
  missing d p differs used here =
      let other = apart_of pool xs ys b d p ok differs used in
      elim (uses_here xs ys b r p below here) [
        | inl now ↦ true≢false (sym now ∙ other.0)
        | inr new ↦ true≢false (sym new ∙ puts.others_apart p other.0 other.1 (ok.live d p used))
      ]

  live : (d p : ℕ) → uses xs (set ys b r) d p ≡ true → is_live pool' p ≡ true
  live d p used =
      elim (cases_eq d b) [
        | inl is ↦
            elim (uses_here xs ys b r p below (subst (λ z. uses xs (set ys b r) z p ≡ true) is used)) [
              | inl now ↦ (puts.now_stays p now).live
              | inr new ↦ puts.live p new
            ]
        | inr differs ↦ (stays d p differs (uses_there xs ys b d r p differs used)).live
      ]

  tight : (d p : ℕ) → uses xs (set ys b r) d p ≡ true → IsEven (word_of pool' p) → ⊥
  tight d p used even =
      elim (cases_eq d b) [
        | inl is ↦
            elim (uses_here xs ys b r p below (subst (λ z. uses xs (set ys b r) z p ≡ true) is used)) [
              | inl now ↦ ok.tight b p (or_left (is_page p (block_at xs b)) (is_page p (block_at ys b)) now) (even_back pool pool' p (puts.now_stays p now).words even)
              | inr new ↦ puts.tight p new even
            ]
        | inr differs ↦
            let there = uses_there xs ys b d r p differs used in
            ok.tight d p there (even_back pool pool' p (stays d p differs there).words even)
      ]

  apart : (d e p : ℕ) → uses xs (set ys b r) d p ≡ true → uses xs (set ys b r) e p ≡ true → d ≡ e
  apart d e p one other =
      elim (cases_eq d b) [
        | inl is ↦
            elim (cases_eq e b) [
              | inl too ↦ is ∙ sym too
              | inr differs ↦ absurd (missing e p differs (uses_there xs ys b e r p differs other) (subst (λ z. uses xs (set ys b r) z p ≡ true) is one))
            ]
        | inr differs ↦
            elim (cases_eq e b) [
              | inl is ↦ absurd (missing d p differs (uses_there xs ys b d r p differs one) (subst (λ z. uses xs (set ys b r) z p ≡ true) is other))
              | inr elsewhere ↦ ok.apart d e p (uses_there xs ys b d r p differs one) (uses_there xs ys b e r p elsewhere other)
            ]
      ]

  unused : (p : ℕ) → IsUnused xs (set ys b r) p → is_live pool' p ≡ false
  unused p none =
      let here = none_here xs ys b r p below (none b) in
      elim (cases_Bool (is_page p (block_at ys b))) [
        | inl next ↦ puts.gone p here.0 next here.1
        | inr not ↦
            puts.others_free p here.0 not here.1
            (ok.unused p (λ d. elim (cases_eq d b) [
              | inl is ↦ rw (is, here.0, not) refl
              | inr differs ↦ none_there xs ys b d r p differs (none d)
            ]))
      ]

  pub IsApart-put : IsApart pool' xs (set ys b r)
  IsApart-put = record {
    count = ok.count;
    count_next = length-set ys b r ∙ ok.count_next;
    live = live;
    apart = apart;
    tight = tight;
    unused = unused;
  }

pub value_of-stays : (pool pool' : Pool) (x : Block) (a : ℕ) → ((p : ℕ) → is_page p x ≡ true → StaysPage pool pool' p) → a < 256 → value_of pool' x a ≡ value_of pool x a
value_of-stays pool pool' (One v) a h lt = refl
value_of-stays pool pool' (Page q) a h lt = (h q (eq-eqb q q refl)).words a lt

small : (c : ℕ) → c % 256 < 256
small c = omega arith

-- the tests of a part and of a span are the same within the block
span_here : (b lo hi v w c : ℕ) → c / 256 ≡ b → cond (leb lo (c % 256) && leb (c % 256) hi) v w ≡ cond (leb (b * 256 + lo) c && leb c (b * 256 + hi)) v w
span_here b lo hi v w c is = grind (arith, nat_tests)

span_there : (b lo hi v w c : ℕ) → c / 256 ≢ b → hi < 256 → w ≡ cond (leb (b * 256 + lo) c && leb c (b * 256 + hi)) v w
span_there b lo hi v w c differs lt = grind (arith, nat_tests)

module _ (pool pool' : Pool) (xs ys : List Block) (b : ℕ) (r : Block) (lo hi v : ℕ) (ok : IsApart pool xs ys) (inside : b < 4352) (puts : Puts pool pool' (block_at xs b) (block_at ys b) r lo hi v) where
  stays' : (d p : ℕ) → d ≢ b → uses xs ys d p ≡ true → StaysPage pool pool' p
  stays' d p differs used =
      let other = apart_of pool xs ys b d p ok differs used in
      puts.others_stay p other.0 other.1 (ok.live d p used)

  -- the values now stay
  pub values-put_now : (c : ℕ) → values pool' xs c ≡ values pool xs c
  values-put_now c =
      value_of-stays pool pool' (block_at xs (c / 256)) (c % 256)
      (λ p is.
      elim (cases_eq (c / 256) b) [
        | inl here ↦ puts.now_stays p (subst (λ z. is_page p (block_at xs z) ≡ true) here is)
        | inr there ↦ stays' (c / 256) p there (or_left (is_page p (block_at xs (c / 256))) (is_page p (block_at ys (c / 256))) is)
      ])
      (small c)

  -- those next are set
  pub values-put_next : hi < 256 → (c : ℕ) → values pool' (set ys b r) c ≡ with_span (values pool ys) (b * 256 + lo) (b * 256 + hi) v c
  values-put_next lt c =
      elim (cases_eq (c / 256) b) [
        | inl here ↦
            let n = ok.count_next in
            let below : b < length ys = omega arith in
            let new : block_at (set ys b r) (c / 256) ≡ r = ap (λ z. block_at (set ys b r) z) here ∙ set_here ys b r below in
            let old : value_of pool (block_at ys b) (c % 256) ≡ values pool ys c = ap (λ z. value_of pool (block_at ys z) (c % 256)) (sym here) in
            ap (λ z. value_of pool' z (c % 256)) new ∙ puts.values (c % 256) (small c) ∙ ap (λ w. cond (leb lo (c % 256) && leb (c % 256) hi) v w) old ∙ span_here b lo hi v (values pool ys c) c here
        | inr there ↦
            ap (λ z. value_of pool' z (c % 256)) (set_there ys b (c / 256) r there)
            ∙ value_of-stays pool pool' (block_at ys (c / 256)) (c % 256) (λ p is. stays' (c / 256) p there (or_right (is_page p (block_at xs (c / 256))) (is_page p (block_at ys (c / 256))) is)) (small c)
            ∙ span_there b lo hi v (values pool ys c) c there lt
      ]

-- a block next is what it is now
module _ (pool pool' : Pool) (xs ys : List Block) (b : ℕ) (ok : IsApart pool xs ys) (inside : b < 4352) (now : (p : ℕ) → is_page p (block_at xs b) ≡ true → is_live pool' p ≡ is_live pool p) (others : (p : ℕ) → is_page p (block_at ys b) ≡ false → is_live pool' p ≡ is_live pool p) (gone : (p : ℕ) → is_page p (block_at ys b) ≡ true → is_page p (block_at xs b) ≡ false → is_live pool' p ≡ false) (words : (p a : ℕ) → word_of pool' p a ≡ word_of pool p a) where
  used_before : (d p : ℕ) → uses xs (set ys b (block_at xs b)) d p ≡ true → uses xs ys d p ≡ true
  used_before d p used =
      elim (cases_eq d b) [
        | inl is ↦
            let n = ok.count_next in
            let here : is_page p (block_at xs b) ≡ true =
            elim (uses_here xs ys b (block_at xs b) p (omega arith) (subst (λ z. uses xs (set ys b (block_at xs b)) z p ≡ true) is used)) [ inl h ↦ h | inr h ↦ h ]
            in
            subst (λ z. uses xs ys z p ≡ true) (sym is) (or_left (is_page p (block_at xs b)) (is_page p (block_at ys b)) here)
        | inr differs ↦ uses_there xs ys b d (block_at xs b) p differs used
      ]

  live_settled : (d p : ℕ) → uses xs (set ys b (block_at xs b)) d p ≡ true → is_live pool' p ≡ true
  live_settled d p used =
      elim (cases_eq d b) [
        | inl is ↦
            let n = ok.count_next in
            let here : is_page p (block_at xs b) ≡ true =
            elim (uses_here xs ys b (block_at xs b) p (omega arith) (subst (λ z. uses xs (set ys b (block_at xs b)) z p ≡ true) is used)) [ inl h ↦ h | inr h ↦ h ]
            in
            now p here ∙ ok.live d p (used_before d p used)
        | inr differs ↦ others p (apart_of pool xs ys b d p ok differs (used_before d p used)).1 ∙ ok.live d p (used_before d p used)
      ]

  unused_settled : (p : ℕ) → IsUnused xs (set ys b (block_at xs b)) p → is_live pool' p ≡ false
  unused_settled p none =
      let n = ok.count_next in
      let here = none_here xs ys b (block_at xs b) p (omega arith) (none b) in
      elim (cases_Bool (is_page p (block_at ys b))) [
        | inl next ↦ gone p next here.0
        | inr not ↦
            others p not
            ∙ ok.unused p (λ d. elim (cases_eq d b) [
              | inl is ↦ rw (is, here.0, not) refl
              | inr differs ↦ none_there xs ys b d (block_at xs b) p differs (none d)
            ])
      ]

  pub IsApart-settle : IsApart pool' xs (set ys b (block_at xs b))
  IsApart-settle = record {
    count = ok.count;
    count_next = length-set ys b (block_at xs b) ∙ ok.count_next;
    live = live_settled;
    apart = λ d e p one other. ok.apart d e p (used_before d p one) (used_before e p other);
    tight = λ d p used even. ok.tight d p (used_before d p used) (even_back pool pool' p (λ a lt. words p a) even);
    unused = unused_settled;
  }

or_none_swap : (x y : Bool) → (y || x) ≡ false → (x || y) ≡ false
or_none_swap true true h = h
or_none_swap true false h = h
or_none_swap false y h = (or_parts y false h).0

uses_swap : (xs ys : List Block) (b p : ℕ) → uses ys xs b p ≡ true → uses xs ys b p ≡ true
uses_swap xs ys b p used =
    elim (or_cases (is_page p (block_at ys b)) (is_page p (block_at xs b)) used) [
      | inl next ↦ or_right (is_page p (block_at xs b)) (is_page p (block_at ys b)) next
      | inr now ↦ or_left (is_page p (block_at xs b)) (is_page p (block_at ys b)) now
    ]

-- the same holds of what is next and what is now
pub IsApart-swap : (pool : Pool) (xs ys : List Block) → IsApart pool xs ys → IsApart pool ys xs
IsApart-swap pool xs ys ok = record {
  count = ok.count_next;
  count_next = ok.count;
  live = λ b p used. ok.live b p (uses_swap xs ys b p used);
  apart = λ b d p one other. ok.apart b d p (uses_swap xs ys b p one) (uses_swap xs ys d p other);
  tight = λ b p used. ok.tight b p (uses_swap xs ys b p used);
  unused = λ p none. ok.unused p (λ b. or_none_swap (is_page p (block_at xs b)) (is_page p (block_at ys b)) (none b));
}
