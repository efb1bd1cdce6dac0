-- Names that their closing ends.
use Rattle.std.proofs.Common.{◌≡◌, ℕ, zero, suc, Bool, true, false, cond, List, [], ◌∷◌, ◌++◌, length, take, Option, Some, None, refl, ap, ◌∙◌, ◌==◌, ◌&&◌, is_some}
use Rattle.unicodeset_parser.specs.Bytes.{begins, begins_with, found_at, one_more}

abbrev brace : List ℕ
brace = 125 ∷ []

abbrev colon : List ℕ
colon = 58 ∷ 93 ∷ []

-- of a place behind one more byte
later : (r : Option ℕ) (k : ℕ) → one_more r ≡ Some k → (j : ℕ) × (k ≡ suc j) × (r ≡ Some j)
later None k h = absurd (cc)
later (Some j) k h = (j, cc, refl)

-- a brace that a name lacks stands first behind it
brace_by : (b : Bool) (r s : Option ℕ) (n : ℕ) → is_some (cond b (Some 0) (one_more r)) ≡ false → (is_some r ≡ false → s ≡ Some n) → cond b (Some 0) (one_more s) ≡ Some (suc n)
brace_by true r s n h ih = absurd (cc)
brace_by false None s n h ih = ap one_more (ih refl)
brace_by false (Some j) s n h ih = absurd (cc)

pub brace_behind_name : (name rest : List ℕ) → is_some (found_at brace name) ≡ false → found_at brace (name ++ (brace ++ rest)) ≡ Some (length name)
brace_behind_name [] rest h = refl
brace_behind_name (x ∷ xs) rest h = brace_by (x == 125 && true) (found_at brace xs) (found_at brace (xs ++ (brace ++ rest))) (length xs) h (brace_behind_name xs rest)

-- before the first brace there is none
none_by : (b : ℕ) (bs : List ℕ) (k : ℕ) (t : Bool) → (b == 125 && true) ≡ t → cond t (Some 0) (one_more (found_at brace bs)) ≡ Some k → ((j : ℕ) → found_at brace bs ≡ Some j → is_some (found_at brace (take j bs)) ≡ false)
    → is_some (found_at brace (take k (b ∷ bs))) ≡ false
none_by b bs zero true e h ih = refl
none_by b bs (suc k) true e h ih = absurd (cc)
none_by b bs zero false e h ih = refl
none_by b bs (suc k) false e h ih =
    let l = later (found_at brace bs) (suc k) h in
    let same : found_at brace bs ≡ Some k = cc (l.1, l.2) in
    ap (λ t. is_some (cond t (Some 0) (one_more (found_at brace (take k bs))))) e ∙ later_none (found_at brace (take k bs)) (ih k same)
  where
    later_none : (r : Option ℕ) → is_some r ≡ false → is_some (one_more r) ≡ false
    later_none None h = refl
    later_none (Some j) h = absurd (cc)

pub no_brace_before : (bs : List ℕ) (k : ℕ) → found_at brace bs ≡ Some k → is_some (found_at brace (take k bs)) ≡ false
no_brace_before [] k h = absurd (cc)
no_brace_before (b ∷ bs) k h = none_by b bs k (b == 125 && true) refl h (no_brace_before bs)

-- what stands before the first `:]` has the same one behind it
front_begins : (b : ℕ) (bs rest : List ℕ) (k : ℕ) → found_at colon bs ≡ Some k → begins colon (b ∷ bs) ≡ false → begins colon (b ∷ (take k bs ++ (colon ++ rest))) ≡ false
front_begins b [] rest k f h = absurd (cc)
front_begins b (c ∷ bs) rest (suc k) f h = h
front_begins b (c ∷ bs) rest zero f h = no_end (b == 58)
  where
    no_end : (t : Bool) → (t && false) ≡ false
    no_end true = refl
    no_end false = refl

front_by : (b : ℕ) (bs rest : List ℕ) (k : ℕ) (t : Bool) → begins colon (b ∷ bs) ≡ t → cond t (Some 0) (one_more (found_at colon bs)) ≡ Some k
    → ((j : ℕ) → found_at colon bs ≡ Some j → found_at colon (take j bs ++ (colon ++ rest)) ≡ Some (length (take j bs)))
    → found_at colon (take k (b ∷ bs) ++ (colon ++ rest)) ≡ Some (length (take k (b ∷ bs)))
front_by b bs rest zero t e h ih = refl
front_by b bs rest (suc k) true e h ih = absurd (cc)
front_by b bs rest (suc k) false e h ih =
    let l = later (found_at colon bs) (suc k) h in
    let same : found_at colon bs ≡ Some k = cc (l.1, l.2) in
    ap (λ t. cond t (Some 0) (one_more (found_at colon (take k bs ++ (colon ++ rest))))) (front_begins b bs rest k same e) ∙ ap one_more (ih k same)

pub colon_front : (bs rest : List ℕ) (k : ℕ) → found_at colon bs ≡ Some k → found_at colon (take k bs ++ (colon ++ rest)) ≡ Some (length (take k bs))
colon_front [] rest k h = absurd (cc)
colon_front (b ∷ bs) rest k h = front_by b bs rest k (begins colon (b ∷ bs)) refl h (λ j e. colon_front bs rest j e)

pub front_plain : (bs : List ℕ) (k : ℕ) → begins_with 94 bs ≡ false → begins_with 94 (take k bs ++ 58 ∷ []) ≡ false
front_plain [] zero h = refl
front_plain [] (suc k) h = refl
front_plain (b ∷ bs) zero h = refl
front_plain (b ∷ bs) (suc k) h = h
