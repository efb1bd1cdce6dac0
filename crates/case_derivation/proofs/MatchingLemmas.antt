-- One more member, matched.
use Rattle.std.proofs.Common.{◌≡◌, ◌≢◌, ℕ, ◌+◌, ◌<◌, Bool, true, false, ◌||◌, ◌&&◌, List, [], ◌∷◌, ◌++◌, Option, Some, None, if◌then◌else◌, length, take, drop, get_or, refl, sym, ap, ◌∙◌, Bor, MatchOption, bytes_eq}
use Rattle.std.specs.List.{flat_map, list_any}
use Rattle.std.proofs.lemmas.Slice.Eq.{bytes_eq-Decides}
use Rattle.std.proofs.lemmas.List.{at_drop_more}
use Rattle.std.proofs.lemmas.List.Folds.{list_any_more}
use Rattle.std.proofs.lemmas.Bool.{and_parts, eq-eqb}
use Rattle.ucd_model.specs.Casing.{lower, title, title_of}
use Rattle.ucd_facts.specs.Facts.{Facts, image_points}
use Rattle.ucd_facts.specs.declared.image.Image.{Image}
use Rattle.ucd_facts.specs.declared.image.Image.TheVariants.{Same, To}
use Rattle.ucd_facts.specs.Predicates.{cased}
use Rattle.ucd_facts.specs.Unmapped.{is_same, is_unchanged_by_casing}
use Rattle.case_derivation.specs.Matching.{matches}
use Rattle.case_derivation.specs.Steps.{titled, title_image}

-- ---- what is left behind an image

same_head : (c : ℕ) (xs ys : List ℕ) → bytes_eq (c ∷ xs) (c ∷ ys) ≡ bytes_eq xs ys
same_head c xs ys = ap (λ b. b && bytes_eq xs ys) (eq-eqb c c refl)

same_prefix : (points xs ys : List ℕ) → bytes_eq (points ++ xs) (points ++ ys) ≡ bytes_eq xs ys
same_prefix [] xs ys = refl
same_prefix (c ∷ points) xs ys = same_head c (points ++ xs) (points ++ ys) ∙ same_prefix points xs ys

never : (b : Bool) → (b ≡ true → ⊥) → false ≡ b
never true differs = absurd (differs refl)
never false differs = refl

pub stripped : (rest points mapped : List ℕ) (r : Option (Bor (List ℕ))) → MatchOption r ((more : List ℕ) → rest ≢ points ++ more) (λ x. rest ≡ points ++ x.now)
    → matches r mapped ≡ bytes_eq (points ++ mapped) rest
stripped rest points mapped None differs = never (bytes_eq (points ++ mapped) rest) (λ (t : bytes_eq (points ++ mapped) rest ≡ true). differs mapped (sym ((bytes_eq-Decides (points ++ mapped) rest).0 t)))
stripped rest points mapped (Some x) is = sym (ap (bytes_eq (points ++ mapped)) is ∙ same_prefix points mapped x.now)

-- ---- one member of a title

first_step : (F : ℕ → Facts) (c : ℕ) (rest : List ℕ) (b : Bool)
    → (if b then title_of F c ++ lower F rest else c ∷ title F rest) ≡ image_points c (if b then (F c).title else Same) ++ titled F b rest
first_step F c rest true = refl
first_step F c rest false = refl

titled_step : (F : ℕ → Facts) (begun : Bool) (c : ℕ) (rest : List ℕ)
    → titled F begun (c ∷ rest) ≡ image_points c (title_image begun (F c)) ++ titled F (begun || cased (F c)) rest
titled_step F true c rest = refl
titled_step F false c rest = first_step F c rest (cased (F c))

-- ---- the members of a list in turn

next : (s : List ℕ) (i c : ℕ) → i < length s → c ≡ get_or s i c → drop i s ≡ c ∷ drop (i + 1) s
next s i c lt is = at_drop_more (λ xs. xs) s i c lt ∙ ap (λ x. x ∷ drop (i + 1) s) (sym is)

module _ (s : List ℕ) (i c : ℕ) (lt : i < length s) (is : c ≡ get_or s i c) (left new : Option (Bor (List ℕ))) (image : List ℕ)
    (step : (mapped : List ℕ) → matches new mapped ≡ matches left (image ++ mapped)) where
  more : drop i s ≡ c ∷ drop (i + 1) s
  more = next s i c lt is

  pub mapped_more : (f : ℕ → List ℕ) → image ≡ f c → matches new (flat_map f (drop (i + 1) s)) ≡ matches left (flat_map f (drop i s))
  mapped_more f e =
      step (flat_map f (drop (i + 1) s)) ∙ ap (λ xs. matches left (xs ++ flat_map f (drop (i + 1) s))) e ∙ ap (λ xs. matches left (flat_map f xs)) (sym more)

  pub titled_more : (F : ℕ → Facts) (begun new_begun : Bool) → image ≡ image_points c (title_image begun (F c)) → new_begun ≡ (begun || cased (F c))
      → matches new (titled F new_begun (drop (i + 1) s)) ≡ matches left (titled F begun (drop i s))
  titled_more F begun new_begun e b =
      let rest : List ℕ = drop (i + 1) s in
      step (titled F new_begun rest) ∙ ap (λ x. matches left (image ++ titled F x rest)) b ∙ ap (λ xs. matches left (xs ++ titled F (begun || cased (F c)) rest)) e
      ∙ ap (matches left) (sym (titled_step F begun c rest)) ∙ ap (λ xs. matches left (titled F begun xs)) (sym more)

-- ---- members that stay

same_image : (i : Image) → is_same i ≡ true → i ≡ Same
same_image Same e = refl
same_image (To points) e = cc

pub record StaysBy (G : Facts) : Type 0 where
  pub lower : G.lower ≡ Same
  pub upper : G.upper ≡ Same
  pub title : G.title ≡ Same
  pub fold : G.fold ≡ Same

pub unmapped_stays : (G : Facts) → is_unchanged_by_casing G ≡ true → StaysBy G
unmapped_stays G e =
    let first = and_parts (is_same G.lower) (is_same G.upper && (is_same G.title && is_same G.fold)) e in
    let second = and_parts (is_same G.upper) (is_same G.title && is_same G.fold) first.1 in
    let third = and_parts (is_same G.title) (is_same G.fold) second.1 in
    record { lower = same_image G.lower first.0; upper = same_image G.upper second.0; title = same_image G.title third.0; fold = same_image G.fold third.1 }

if_same : (t : Bool) (i : Image) → i ≡ Same → (if t then i else Same) ≡ Same
if_same true i e = e
if_same false i e = refl

title_stays : (begun : Bool) (G : Facts) → StaysBy G → title_image begun G ≡ Same
title_stays true G stays = stays.lower
title_stays false G stays = if_same (cased G) G.title stays.title

pub mapped_stays : (f : ℕ → List ℕ) (s : List ℕ) (i c : ℕ) → i < length s → c ≡ get_or s i c → f c ≡ c ∷ []
    → bytes_eq (flat_map f (drop (i + 1) s)) (drop (i + 1) s) ≡ bytes_eq (flat_map f (drop i s)) (drop i s)
mapped_stays f s i c lt is e =
    let rest : List ℕ = drop (i + 1) s in
    sym (same_head c (flat_map f rest) rest)
    ∙ sym (ap (λ (xs : List ℕ). bytes_eq (xs ++ flat_map f rest) (c ∷ rest)) e)
    ∙ sym (ap (λ (xs : List ℕ). bytes_eq (flat_map f xs) xs) (next s i c lt is))

pub titled_stays : (F : ℕ → Facts) (s : List ℕ) (i c : ℕ) → i < length s → c ≡ get_or s i c → StaysBy (F c)
    → bytes_eq (titled F (list_any (λ x. cased (F x)) (take (i + 1) s)) (drop (i + 1) s)) (drop (i + 1) s) ≡ bytes_eq (titled F (list_any (λ x. cased (F x)) (take i s)) (drop i s)) (drop i s)
titled_stays F s i c lt is stays =
    let rest : List ℕ = drop (i + 1) s in
    let begun : Bool = list_any (λ x. cased (F x)) (take i s) in
    let more : list_any (λ x. cased (F x)) (take (i + 1) s) ≡ (begun || cased (F c)) = list_any_more (λ x. cased (F x)) s i c lt ∙ ap (λ x. begun || cased (F x)) (sym is) in
    ap (λ b. bytes_eq (titled F b rest) rest) more
    ∙ sym (same_head c (titled F (begun || cased (F c)) rest) rest)
    ∙ sym (ap (λ (j : Image). bytes_eq (image_points c j ++ titled F (begun || cased (F c)) rest) (c ∷ rest)) (title_stays begun (F c) stays))
    ∙ sym (ap (λ (xs : List ℕ). bytes_eq xs (c ∷ rest)) (titled_step F begun c rest))
    ∙ sym (ap (λ (xs : List ℕ). bytes_eq (titled F begun xs) xs) (next s i c lt is))
