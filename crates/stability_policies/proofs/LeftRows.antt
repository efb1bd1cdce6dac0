-- Named rows of which those are left out that stand in both releases.
use Rattle.std.proofs.Common.{◌≡◌, ℕ, ◌+◌, ◌-◌, ◌<◌, ◌≤◌, Bool, true, false, ◌&&◌, leb, not, if◌then◌else◌, List, [], ◌∷◌, ◌++◌, length, get_or, drop, take, map, filter, length-drop, Some, None, append_assoc, refl, sym, ap, subst, ◌∙◌, arith, add-one, drop-cons, take_all, bytes_eq}
use Rattle.std.proofs.lemmas.Bool.Decides.{nat_tests}
use mathlib.Core.Path.{fun_ext}
use Rattle.std.proofs.lemmas.Slice.Eq.{bytes_eq-Decides}
use Rattle.ucd_facts.specs.Facts.{within}
use Rattle.ucd_facts.specs.declared.row.Row.{Row}
use Rattle.ucd_facts.specs.declared.row.Row.TheVariants.{Unit as DataLine}
use Rattle.stability_policies.specs.NamedRows.{AreAbove, AreLeft, Takes, name_at, named, named_in, news, olds}
use Rattle.stability_policies.specs.Policies.{differ}
use Rattle.stability_policies.specs.declared.differing.Step.{Step}
use Rattle.stability_policies.specs.declared.differing.Step.TheVariants.{Same, Old, New}
use Rattle.stability_policies.specs.declared.named_row.NamedRow.{NamedRow}
use Rattle.stability_policies.proofs.NameLemmas.{none_below, outside_above}

-- ---- a row among others

above_from : (n m : ℕ) (rows : List NamedRow) → n ≤ m → AreAbove m rows → AreAbove n rows
above_from n m [] le above = tt
above_from n m (row ∷ rows) le above = (let from : m ≤ row.span.lo = above.0 in omega arith, above.1, above.2)

without_one : (n : ℕ) (xs ys : List NamedRow) (r : NamedRow) → AreAbove n (xs ++ r ∷ ys) → AreAbove n (xs ++ ys)
without_one n [] ys r above =
    let from : n ≤ r.span.lo = above.0 in
    let ordered : r.span.lo ≤ r.span.hi = above.1 in
    above_from n (r.span.hi + 1) ys (omega arith) above.2
without_one n (x ∷ xs) ys r above = (above.0, above.1, without_one (x.span.hi + 1) xs ys r above.2)

begins_above : (n : ℕ) (xs ys : List NamedRow) (r : NamedRow) → AreAbove n (xs ++ r ∷ ys) → n ≤ r.span.lo
begins_above n [] ys r above = above.0
begins_above n (x ∷ xs) ys r above =
    let from : n ≤ x.span.lo = above.0 in
    let ordered : x.span.lo ≤ x.span.hi = above.1 in
    let rest : x.span.hi + 1 ≤ r.span.lo = begins_above (x.span.hi + 1) xs ys r above.2 in
    omega arith

covered_from : (c a b : ℕ) → (leb a c && leb c b) ≡ true → (a ≤ c) × (c ≤ b)
covered_from c a b e = (grind (arith, nat_tests), grind (arith, nat_tests))

-- the one row that covers c gives the name, and without it there is none
names_here : (n c : ℕ) (xs ys : List NamedRow) (r : NamedRow) → AreAbove n (xs ++ r ∷ ys) → within c r.span ≡ true → (name_at (xs ++ r ∷ ys) c ≡ Some r.name) × (name_at (xs ++ ys) c ≡ None)
names_here n c [] ys r above here =
    let cover = covered_from c r.span.lo r.span.hi here in
    let to : c ≤ r.span.hi = cover.1 in
    (ap (λ b. if b then Some r.name else name_at ys c) here, none_below (r.span.hi + 1) c ys above.2 (omega arith))
names_here n c (x ∷ xs) ys r above here =
    let cover = covered_from c r.span.lo r.span.hi here in
    let from : r.span.lo ≤ c = cover.0 in
    let behind : x.span.hi + 1 ≤ r.span.lo = begins_above (x.span.hi + 1) xs ys r above.2 in
    let other : within c x.span ≡ false = outside_above c x.span.lo x.span.hi (omega arith) in
    let rest = names_here (x.span.hi + 1) c xs ys r above.2 here in
    (ap (λ b. if b then Some x.name else name_at (xs ++ r ∷ ys) c) other ∙ rest.0, ap (λ b. if b then Some x.name else name_at (xs ++ ys) c) other ∙ rest.1)

names_there : (c : ℕ) (xs ys : List NamedRow) (r : NamedRow) → within c r.span ≡ false → name_at (xs ++ r ∷ ys) c ≡ name_at (xs ++ ys) c
names_there c [] ys r out = ap (λ b. if b then Some r.name else name_at ys c) out
names_there c (x ∷ xs) ys r out = ap (λ rest. if within c x.span then Some x.name else rest) (names_there c xs ys r out)

module _ (bs cs ds es : List NamedRow) (r : NamedRow) (before : AreAbove 0 (bs ++ r ∷ cs)) (after : AreAbove 0 (ds ++ r ∷ es)) where
  differ_by : (c : ℕ) (b : Bool) → within c r.span ≡ b → differ (name_at (bs ++ cs) c) (name_at (ds ++ es) c) ≡ differ (name_at (bs ++ r ∷ cs) c) (name_at (ds ++ r ∷ es) c)
  differ_by c true here =
      let old = names_here 0 c bs cs r before here in
      let new = names_here 0 c ds es r after here in
      let same : bytes_eq r.name r.name ≡ true = (bytes_eq-Decides r.name r.name).1 refl in
      ap (λ name. differ name (name_at (ds ++ es) c)) old.1 ∙ sym (ap not same)
      ∙ sym (ap (differ (Some r.name)) new.0) ∙ sym (ap (λ name. differ name (name_at (ds ++ r ∷ es) c)) old.0)
  differ_by c false out =
      sym (ap (λ name. differ name (name_at (ds ++ r ∷ es) c)) (names_there c bs cs r out) ∙ ap (differ (name_at (bs ++ cs) c)) (names_there c ds es r out))

  left_without : (old new : List NamedRow) → ((c : ℕ) → differ (name_at (bs ++ r ∷ cs) c) (name_at (ds ++ r ∷ es) c) ≡ differ (name_at old c) (name_at new c)) → AreLeft old new (bs ++ cs) (ds ++ es)
  left_without old new same = record {
    before_above = without_one 0 bs cs r before;
    after_above = without_one 0 ds es r after;
    same = λ c. differ_by c (within c r.span) refl ∙ same c;
  }

-- ---- a step

module _ (old new : List NamedRow) where
  both_left : (bs ds : List NamedRow) (x : Row) (xs ys : List Row) → AreLeft old new (bs ++ named (x ∷ xs)) (ds ++ named (x ∷ ys)) → AreLeft old new (bs ++ named xs) (ds ++ named ys)
  both_left bs ds (DataLine row) xs ys left =
      left_without bs (named xs) ds (named ys) (record { span = row.span; name = row.name }) left.before_above left.after_above old new left.same
  both_left bs ds _ xs ys left = left

  pub step_left : (bs cs ds es : List NamedRow) (i j : ℕ) (olds_all news_all : List Row) (x y : Row) (step : Step) → i < length olds_all → j < length news_all → x ≡ get_or olds_all i x → y ≡ get_or news_all j y
      → Takes x y step bs cs ds es → AreLeft old new (bs ++ named (drop i olds_all)) (ds ++ named (drop j news_all)) → AreLeft old new (cs ++ named (drop (i + olds step) olds_all)) (es ++ named (drop (j + news step) news_all))
  step_left bs cs ds es i j xs ys x y step i_in j_in x_is y_is takes left = by step takes
    where
      rest_of : (k : ℕ) (rows : List Row) (r : Row) → k < length rows → r ≡ get_or rows k r → drop k rows ≡ r ∷ drop (k + 1) rows
      rest_of k rows r lt is = drop-cons rows k r lt ∙ ap (λ (m : ℕ). get_or rows k r ∷ drop m rows) (sym (add-one k)) ∙ ap (λ (s : Row). s ∷ drop (k + 1) rows) (sym is)

      olds_left : drop i xs ≡ x ∷ drop (i + 1) xs
      olds_left = rest_of i xs x i_in x_is

      news_left : drop j ys ≡ y ∷ drop (j + 1) ys
      news_left = rest_of j ys y j_in y_is

      none : (k : ℕ) → k + 0 ≡ k
      none k = omega arith

      heads : AreLeft old new (bs ++ named (x ∷ drop (i + 1) xs)) (ds ++ named (y ∷ drop (j + 1) ys))
      heads = subst (λ (l : List Row). AreLeft old new (bs ++ named l) (ds ++ named (y ∷ drop (j + 1) ys))) olds_left (subst (λ (l : List Row). AreLeft old new (bs ++ named (drop i xs)) (ds ++ named l)) news_left left)

      put : (fs gs : List NamedRow) (r : Row) (rows : List Row) → gs ≡ fs ++ named_in r → gs ++ named rows ≡ fs ++ named (r ∷ rows)
      put fs gs r rows is = ap (λ (l : List NamedRow). l ++ named rows) is ∙ append_assoc fs (named_in r) (named rows)

      by : (s : Step) → Takes x y s bs cs ds es → AreLeft old new (cs ++ named (drop (i + olds s) xs)) (es ++ named (drop (j + news s) ys))
      by Same t =
          let one : AreLeft old new (bs ++ named (x ∷ drop (i + 1) xs)) (ds ++ named (x ∷ drop (j + 1) ys)) = subst (λ (r : Row). AreLeft old new (bs ++ named (x ∷ drop (i + 1) xs)) (ds ++ named (r ∷ drop (j + 1) ys))) (sym t.0) heads in
          let both : AreLeft old new (bs ++ named (drop (i + 1) xs)) (ds ++ named (drop (j + 1) ys)) = both_left bs ds x (drop (i + 1) xs) (drop (j + 1) ys) one in
          subst (λ (l : List NamedRow). AreLeft old new (l ++ named (drop (i + 1) xs)) (es ++ named (drop (j + 1) ys))) (sym t.1)
          (subst (λ (l : List NamedRow). AreLeft old new (bs ++ named (drop (i + 1) xs)) (l ++ named (drop (j + 1) ys))) (sym t.2) both)
      by Old t =
          let here : AreLeft old new (bs ++ named (x ∷ drop (i + 1) xs)) (ds ++ named (drop j ys)) = subst (λ (l : List Row). AreLeft old new (bs ++ named l) (ds ++ named (drop j ys))) olds_left left in
          let moved : AreLeft old new (cs ++ named (drop (i + 1) xs)) (ds ++ named (drop j ys)) = subst (λ (l : List NamedRow). AreLeft old new l (ds ++ named (drop j ys))) (sym (put bs cs x (drop (i + 1) xs) t.0)) here in
          subst (λ (l : List NamedRow). AreLeft old new (cs ++ named (drop (i + 1) xs)) (l ++ named (drop (j + 0) ys))) (sym t.1)
          (subst (λ (k : ℕ). AreLeft old new (cs ++ named (drop (i + 1) xs)) (ds ++ named (drop k ys))) (sym (none j)) moved)
      by New t =
          let here : AreLeft old new (bs ++ named (drop i xs)) (ds ++ named (y ∷ drop (j + 1) ys)) = subst (λ (l : List Row). AreLeft old new (bs ++ named (drop i xs)) (ds ++ named l)) news_left left in
          let moved : AreLeft old new (bs ++ named (drop i xs)) (es ++ named (drop (j + 1) ys)) = subst (λ (l : List NamedRow). AreLeft old new (bs ++ named (drop i xs)) l) (sym (put ds es y (drop (j + 1) ys) t.1)) here in
          subst (λ (l : List NamedRow). AreLeft old new (l ++ named (drop (i + 0) xs)) (es ++ named (drop (j + 1) ys))) (sym t.0)
          (subst (λ (k : ℕ). AreLeft old new (bs ++ named (drop k xs)) (es ++ named (drop (j + 1) ys))) (sym (none i)) moved)

  -- what is left of both is put behind the rows that differ
  pub all_left : (bs cs ds es : List NamedRow) (xs ys : List Row) → cs ≡ bs ++ named xs → es ≡ ds ++ named ys → AreLeft old new (bs ++ named xs) (ds ++ named ys) → AreLeft old new cs es
  all_left bs cs ds es xs ys before after left = subst (λ (l : List NamedRow). AreLeft old new l es) (sym before) (subst (λ (l : List NamedRow). AreLeft old new (bs ++ named xs) l) (sym after) left)

-- where nothing is left out
pub left_whole : (old new : List NamedRow) → AreAbove 0 old → AreAbove 0 new → AreLeft old new old new
left_whole old new before after = record { before_above = before; after_above = after; same = λ c. refl }

-- a step takes at least one row, and at most one of each release
pub step_moves : (step : Step) → (olds step ≤ 1) × (news step ≤ 1) × (1 ≤ olds step + news step)
step_moves Same = (omega arith, omega arith, omega arith)
step_moves _ = (omega arith, omega arith, omega arith)

-- the rows from one on, as they are handed on
pub rest_whole : (k : ℕ) (rows : List Row) → take (length rows - k) (drop k rows) ≡ drop k rows
rest_whole k rows = take_all (length rows - k) (drop k rows) (omega (arith, length-drop k rows))

-- the names that differ are those of the rows that are left
pub breaks_left : {B : Type 0} (f : ℕ → B) (points : List ℕ) (old new before after : List NamedRow) → AreLeft old new before after
    → map f (filter (λ c. differ (name_at before c) (name_at after c)) points) ≡ map f (filter (λ c. differ (name_at old c) (name_at new c)) points)
breaks_left f points old new before after left = ap (λ (g : ℕ → Bool). map f (filter g points)) (fun_ext left.same)
