-- What holds of tables after they were changed.
use Rattle.std.proofs.Common.{◌≡◌, ℕ, ◌<◌, Bool, true, false, cond, List, [], ◌∷◌, Result, Ok, Err, OnOk, OnErr, is_err, refl, sym, ap, ap₂, subst, ◌∙◌, inl, inr}
use Rattle.std.specs.List.{list_any}
use Rattle.std.proofs.lemmas.Bool.{cases_lt, true≢false}
use Rattle.range_table.specs.Values.{SameValues}
use Rattle.ucd_points.specs.Limits.{point_count}
use Rattle.ucd_points.specs.Bounds.{Bounds}
use Rattle.ucd_facts.specs.Facts.{Facts, unassigned, within}
use Rattle.ucd_facts.specs.Composites.{composes, ends_with}
use Rattle.range_table.specs.declared.table.Table.{Ghosts}
use Rattle.fact_tables.specs.FactTables.{words_at, rests_at, facts_at}
use Rattle.fact_tables.specs.declared.fact_tables.FactTables.{FactTables}
use Rattle.fact_tables.specs.declared.now_or_next.NowOrNext.{NowOrNext}
use Rattle.fact_tables.specs.declared.now_or_next.NowOrNext.TheVariants.{Now, Next}
use Rattle.fact_tables.proofs.IndexLemmas.{pair_candidate, second_candidate}
use Rattle.fact_tables.specs.Changes.{StaysOutside}
use Rattle.fact_tables.specs.Copying.{with_spans, IsListed}
use Rattle.fact_tables.specs.Index.{Lists, is_candidate, is_listed}
use Rattle.fact_tables.specs.KeptFacts.{kept_at, all_kept, Packs}
use Rattle.fact_tables.specs.Rest.{RestOf}
use Rattle.fact_tables.specs.RowTables.{word_in, rest_in, made_facts}
use Rattle.fact_tables.specs.Word.{packed}
use Rattle.fact_tables.specs.declared.pair_index.PairIndex.{PairIndex}
use Rattle.fact_tables.specs.declared.row_tables.RowTables.{RowTables}
use Rattle.fact_tables.specs.KeptFactsLemmas.{kept_point, kept_outside, same_kept, below_point}

pub record Sound (index : PairIndex) (words : ℕ → ℕ) (rests : ℕ → RestOf) : Type 0 where
  pub listed : Lists index (all_kept words rests)
  pub packs : Packs words (all_kept words rests)

pub sound_same : (index : PairIndex) (words words' : ℕ → ℕ) (rests rests' : ℕ → RestOf) → SameValues words words' → SameValues rests rests' → Sound index words' rests' → Sound index words rests
sound_same index words words' rests rests' same alike sound =
    let e : all_kept words rests ≡ all_kept words' rests' = same_kept words words' rests rests' same alike in
    record {
      listed = subst (Lists index) (sym e) sound.listed;
      packs = λ c lt. same c lt ∙ sound.packs c lt ∙ sym (ap (λ (F : ℕ → Facts). packed (F c)) e);
    }

-- a longer index
pub sound_grows : (index more : PairIndex) (words : ℕ → ℕ) (rests : ℕ → RestOf) → ((s y q : ℕ) → is_listed index s y q ≡ true → is_listed more s y q ≡ true) → Sound index words rests → Sound more words rests
sound_grows index more words rests grows sound = record {
  listed = λ s y q kind is. grows s y q (sound.listed s y q kind is);
  packs = sound.packs;
}

put_by : (b : Bool) (c w' w wm : ℕ) (r' r rm : RestOf) → w' ≡ cond b wm w → r' ≡ cond b rm r → kept_at c w' r' ≡ cond b (kept_at c wm rm) (kept_at c w r)
put_by true c w' w wm r' r rm word rest = ap₂ (kept_at c) word rest
put_by false c w' w wm r' r rm word rest = ap₂ (kept_at c) word rest

-- what is kept next once tables of rows were copied on spans
pub put_point : (t : RowTables) (spans : List Bounds) (words words' : ℕ → ℕ) (rests rests' : ℕ → RestOf)
    → SameValues words' (with_spans words spans (word_in t)) → SameValues rests' (with_spans rests spans (rest_in t))
    → (c : ℕ) → c < 1114112 → all_kept words' rests' c ≡ with_spans (all_kept words rests) spans (made_facts t) c
put_point t spans words words' rests rests' word rest c lt =
    kept_point words' rests' c lt
    ∙ put_by (list_any (within c) spans) c (words' c) (words c) (word_in t c) (rests' c) (rests c) (rest_in t c) (word c lt) (rest c lt)
    ∙ ap (λ (F : Facts). cond (list_any (within c) spans) (made_facts t c) F) (sym (kept_point words rests c lt))

packs_by : (b : Bool) (w' w wm : ℕ) (F' F G : Facts) → w' ≡ cond b wm w → F' ≡ cond b G F → wm ≡ packed G → w ≡ packed F → w' ≡ packed F'
packs_by true w' w wm F' F G word is made was = word ∙ made ∙ sym (ap packed is)
packs_by false w' w wm F' F G word is made was = word ∙ was ∙ sym (ap packed is)

listed_by : (b : Bool) (index : PairIndex) (s y q : ℕ) (F' F G : Facts) → F' ≡ cond b G F
    → (b ≡ true → is_candidate G ≡ true → G.mapping ≡ s ∷ y ∷ [] → is_listed index s y q ≡ true)
    → (is_candidate F ≡ true → F.mapping ≡ s ∷ y ∷ [] → is_listed index s y q ≡ true)
    → is_candidate F' ≡ true → F'.mapping ≡ s ∷ y ∷ [] → is_listed index s y q ≡ true
listed_by true index s y q F' F G e made was kind is = made refl (ap is_candidate (sym e) ∙ kind) (ap (λ (H : Facts). H.mapping) (sym e) ∙ is)
listed_by false index s y q F' F G e made was kind is = was (ap is_candidate (sym e) ∙ kind) (ap (λ (H : Facts). H.mapping) (sym e) ∙ is)

-- what is next stays outside of the spans that were copied
pub stays_copied : (touched spans : List Bounds) → touched ≡ spans → (F old made : ℕ → Facts) (now words : ℕ → ℕ) (rests rests' : ℕ → RestOf)
    → all_kept now rests ≡ F → old ≡ F → ((c : ℕ) → c < 1114112 → all_kept words rests' c ≡ with_spans old spans made c)
    → StaysOutside touched (all_kept now rests) (all_kept words rests')
stays_copied touched spans e F old made now words rests rests' same ready point c none = elim (cases_lt c point_count) [
  | inl lt ↦ ap (λ (G : ℕ → Facts). G c) (same ∙ sym ready)
      ∙ sym (point c (below_point c lt) ∙ ap (λ b. cond b (made c) (old c)) (ap (λ (ss : List Bounds). list_any (within c) ss) (sym e) ∙ none))
  | inr le ↦ kept_outside now rests c le ∙ sym (kept_outside words rests' c le)
]

-- past the code points there is no candidate
none_outside : (F : Facts) (c : ℕ) → F ≡ unassigned c → is_candidate F ≡ true → ⊥
none_outside F c e kind = true≢false (sym kind ∙ ap is_candidate e)

pub sound_put : (index more : PairIndex) (t : RowTables) (spans : List Bounds) (words words' : ℕ → ℕ) (rests rests' : ℕ → RestOf)
    → SameValues words' (with_spans words spans (word_in t)) → SameValues rests' (with_spans rests spans (rest_in t))
    → ((s y q : ℕ) → is_listed index s y q ≡ true → is_listed more s y q ≡ true)
    → ((q : ℕ) → list_any (within q) spans ≡ true → IsListed (is_listed more) t q) → Packs (word_in t) (made_facts t) → Sound index words rests → Sound more words' rests'
sound_put index more t spans words words' rests rests' word rest grows made packs sound =
    let F' : ℕ → Facts = all_kept words' rests' in
    let F : ℕ → Facts = all_kept words rests in
    let point : (c : ℕ) → c < 1114112 → F' c ≡ with_spans F spans (made_facts t) c = put_point t spans words words' rests rests' word rest in
    record {
      listed = λ s y q kind is. elim (cases_lt q point_count) [
        | inl lt ↦ listed_by (list_any (within q) spans) more s y q (F' q) (F q) (made_facts t q) (point q (below_point q lt))
            (λ inside k m. made q inside s y k m) (λ k m. grows s y q (sound.listed s y q k m)) kind is
        | inr le ↦ absurd (none_outside (F' q) q (kept_outside words' rests' q le) kind)
      ];
      packs = λ c lt. packs_by (list_any (within c) spans) (words' c) (words c) (word_in t c) (F' c) (F c) (made_facts t c) (word c lt) (point c lt) (packs c lt) (sound.packs c lt);
    }

-- spans that cover all code points
pub with_all : {V : Type 0} (spans : List Bounds) (f g : ℕ → V) (c : ℕ) → list_any (within c) spans ≡ true → with_spans f spans g c ≡ g c
with_all spans f g c is = rw is refl

-- tables that keep what tables of rows do
pub made_point : (t : RowTables) (words : ℕ → ℕ) (rests : ℕ → RestOf) → SameValues words (word_in t) → SameValues rests (rest_in t) → (c : ℕ) → c < 1114112 → all_kept words rests c ≡ made_facts t c
made_point t words rests word rest c lt = kept_point words rests c lt ∙ ap₂ (kept_at c) (word c lt) (rest c lt)

pub sound_made : (index : PairIndex) (t : RowTables) (words : ℕ → ℕ) (rests : ℕ → RestOf) → SameValues words (word_in t) → SameValues rests (rest_in t)
    → ((q : ℕ) → q < 1114112 → IsListed (is_listed index) t q) → Packs (word_in t) (made_facts t) → Sound index words rests
sound_made index t words rests word rest made packs = record {
  listed = λ s y q kind is. elim (cases_lt q point_count) [
    | inl lt ↦ let e = made_point t words rests word rest q (below_point q lt) in
        made q (below_point q lt) s y (ap is_candidate (sym e) ∙ kind) (ap (λ (H : Facts). H.mapping) (sym e) ∙ is)
    | inr le ↦ absurd (none_outside (all_kept words rests q) q (kept_outside words rests q le) kind)
  ];
  packs = λ c lt. word c lt ∙ packs c lt ∙ sym (ap packed (made_point t words rests word rest c lt));
}

-- a candidate and a composite are code points
pub candidate_inside : (words : ℕ → ℕ) (rests : ℕ → RestOf) (q : ℕ) → is_candidate (all_kept words rests q) ≡ true → q < 1114112
candidate_inside words rests q is = elim (cases_lt q point_count) [
  | inl lt ↦ below_point q lt
  | inr le ↦ absurd (none_outside (all_kept words rests q) q (kept_outside words rests q le) is)
]

pub pair_inside : (words : ℕ → ℕ) (rests : ℕ → RestOf) (s y q : ℕ) → composes (all_kept words rests) s y q ≡ true → q < 1114112
pair_inside words rests s y q is = candidate_inside words rests q (pair_candidate (all_kept words rests) s y q is)

pub second_inside : (words : ℕ → ℕ) (rests : ℕ → RestOf) (y q : ℕ) → ends_with (all_kept words rests) y q ≡ true → q < 1114112
second_inside words rests y q is = candidate_inside words rests q (second_candidate (all_kept words rests) y q is)

-- what tables keep, now and next
pub listed_at : {T : Type 0} {d : Ghosts T ℕ} (version : NowOrNext) (t : FactTables T d) → Lists t.index (facts_at version t)
listed_at Now t = t.now_listed
listed_at Next t = t.next_listed

pub sound_at : {T : Type 0} {d : Ghosts T ℕ} (version : NowOrNext) (t : FactTables T d) → Sound t.index (words_at version t) (rests_at version t)
sound_at Now t = record { listed = t.now_listed; packs = t.now_packs }
sound_at Next t = record { listed = t.next_listed; packs = t.next_packs }

pub on_ok_both : {A E : Type 0} (r : Result A E) (X Y Z : Type 0) → (X → Y → Z) → OnOk r X → OnOk r Y → OnOk r Z
on_ok_both (Ok a) X Y Z f h k = f h k
on_ok_both (Err e) X Y Z f h k = tt
