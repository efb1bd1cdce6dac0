-- Tags of compatibility mappings.
use Rattle.std.proofs.Common.{◌≡◌, ℕ, Bool, true, false, cond, List, ◌∷◌, ◌++◌, Option, Some, None, Decides, refl, ap, ◌∙◌, bytes_eq}
use Rattle.std.specs.List.{before_first, after_first}
use Rattle.std.proofs.lemmas.Slice.Eq.{bytes_eq-Decides}
use Rattle.ucd_facts.specs.Names.{positional_tag_of, shaped_tag_of, sized_tag_of, other_tag_of, or_else, tag_of, tag_text}
use Rattle.ucd_facts.specs.declared.decomposition.Tag.{Tag}
use Rattle.ucd_facts.specs.declared.decomposition.Tag.TheVariants.{Font, NoBreak, Initial, Medial, Final, Isolated, Circle, Super, Sub, Vertical, Wide, Narrow, Small, Square, Fraction, Compat}
use Rattle.source_rows.specs.DataFaults.{is_gt}

-- the tag without its `>`
abbrev pub tag_open : Tag → List ℕ
tag_open tag = before_first is_gt (tag_text tag)

pub open_before : (tag : Tag) (rest : List ℕ) → before_first is_gt (tag_text tag ++ rest) ≡ tag_open tag
open_before Font rest = refl
open_before _ rest = refl

pub rest_after : (tag : Tag) (rest : List ℕ) → after_first is_gt (tag_text tag ++ rest) ≡ rest
rest_after Font rest = refl
rest_after _ rest = refl

pub open_is_tag : (tag : Tag) → tag_of (tag_open tag) ≡ Some tag
unfolding positional_tag_of shaped_tag_of sized_tag_of other_tag_of
open_is_tag Font = refl
open_is_tag _ = refl

-- ---- the other way

one_or : (b : Bool) (bs : List ℕ) (one tag : Tag) (rest : Option Tag) → Decides b (bs ≡ tag_open one) → cond b (Some one) rest ≡ Some tag → (rest ≡ Some tag → bs ≡ tag_open tag) → bs ≡ tag_open tag
one_or true bs one tag rest d e others =
    let same : one ≡ tag = cc in
    d.0 refl ∙ ap tag_open same
one_or false bs one tag rest d e others = others e

abbrev or_one : List ℕ → Tag → Option Tag → Option Tag
or_one bs one rest = cond (bytes_eq bs (tag_open one)) (Some one) rest

one_of_four : (bs : List ℕ) (first second third fourth tag : Tag) → or_one bs first (or_one bs second (or_one bs third (or_one bs fourth None))) ≡ Some tag → bs ≡ tag_open tag
one_of_four bs first second third fourth tag h =
    one_or _ bs first tag _ (bytes_eq-Decides bs (tag_open first)) h (λ h1.
    one_or _ bs second tag _ (bytes_eq-Decides bs (tag_open second)) h1 (λ h2.
    one_or _ bs third tag _ (bytes_eq-Decides bs (tag_open third)) h2 (λ h3.
    one_or _ bs fourth tag _ (bytes_eq-Decides bs (tag_open fourth)) h3 (λ h4.
    absurd cc))))

positional_is : (bs : List ℕ) (tag : Tag) → positional_tag_of bs ≡ Some tag → bs ≡ tag_open tag
unfolding positional_tag_of
positional_is bs tag h = one_of_four bs Initial Medial Final Isolated tag h

shaped_is : (bs : List ℕ) (tag : Tag) → shaped_tag_of bs ≡ Some tag → bs ≡ tag_open tag
unfolding shaped_tag_of
shaped_is bs tag h = one_of_four bs Circle Super Sub Vertical tag h

sized_is : (bs : List ℕ) (tag : Tag) → sized_tag_of bs ≡ Some tag → bs ≡ tag_open tag
unfolding sized_tag_of
sized_is bs tag h = one_of_four bs Wide Narrow Small Square tag h

other_is : (bs : List ℕ) (tag : Tag) → other_tag_of bs ≡ Some tag → bs ≡ tag_open tag
unfolding other_tag_of
other_is bs tag h = one_of_four bs Font NoBreak Fraction Compat tag h

first_or : (o rest : Option Tag) (bs : List ℕ) (tag : Tag) → or_else o rest ≡ Some tag → (o ≡ Some tag → bs ≡ tag_open tag) → (rest ≡ Some tag → bs ≡ tag_open tag) → bs ≡ tag_open tag
first_or (Some t) rest bs tag h first others = first h
first_or None rest bs tag h first others = others h

pub tag_is : (bs : List ℕ) (tag : Tag) → tag_of bs ≡ Some tag → bs ≡ tag_open tag
tag_is bs tag h =
    first_or (positional_tag_of bs) _ bs tag h (positional_is bs tag) (λ h1.
    first_or (shaped_tag_of bs) _ bs tag h1 (shaped_is bs tag) (λ h2.
    first_or (sized_tag_of bs) _ bs tag h2 (sized_is bs tag) (other_is bs tag)))

pub tag_whole : (tag : Tag) (rest : List ℕ) → tag_open tag ++ 62 ∷ rest ≡ tag_text tag ++ rest
tag_whole Font rest = refl
tag_whole _ rest = refl
