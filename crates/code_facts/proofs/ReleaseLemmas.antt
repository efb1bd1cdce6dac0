-- Tables that are made of the rows of a release.
use Rattle.std.proofs.Common.{◌≡◌, ℕ, ◌<◌, Bool, true, false, cond, List, Result, Ok, Err, OnOk, refl, sym, ap, ◌∙◌}
use Rattle.std.specs.List.{list_any}
use Rattle.ucd_points.specs.Bounds.{Bounds}
use Rattle.ucd_facts.specs.Facts.{Facts, Sources, facts, within}
use Rattle.ucd_facts.specs.FactsLemmas.{facts_inside}
use Rattle.release_rows.specs.Touching.{meets, SpeakingRowsMeetSpans}
use Rattle.fact_tables.specs.Copying.{with_spans}
use Rattle.fact_tables.specs.KeptFacts.{all_kept, Packs}
use Rattle.fact_tables.specs.KeptFactsLemmas.{point_below}
use Rattle.fact_tables.specs.Rest.{RestOf}
use Rattle.fact_tables.specs.RowTables.{word_in, made_facts}
use Rattle.fact_tables.specs.Word.{packed}
use Rattle.fact_tables.specs.declared.row_tables.RowTables.{RowTables}
use Rattle.code_facts.specs.Locality.{rows_within}
use Rattle.code_facts.specs.LocalityProofs.{facts_are_local}
use Rattle.code_facts.specs.RowTables.{ShowsRows}
use Rattle.code_facts.proofs.FactLemmas.{facts_from_points}

pub shown_packs : (t : RowTables) (rows : Sources) → ((c : ℕ) → c < 1114112 → ShowsRows t rows c) → Packs (word_in t) (made_facts t)
shown_packs t rows shows c lt = (shows c lt).word ∙ sym (ap packed (shows c lt).facts)

facts_by : (b : Bool) (F' F G H : Facts) → F' ≡ cond b G F → (b ≡ true → G ≡ H) → (b ≡ false → F ≡ H) → F' ≡ H
facts_by true F' F G H e made was = e ∙ made refl
facts_by false F' F G H e made was = e ∙ was refl

-- what is next once the tables of the rows that speak of touched code points were copied where those are
pub put_facts : (t : RowTables) (rows : Sources) (spans : List Bounds) (words : ℕ → ℕ) (rests : ℕ → RestOf) (old : ℕ → Facts)
    → ((c : ℕ) → c < 1114112 → all_kept words rests c ≡ with_spans old spans (made_facts t) c) → ((c : ℕ) → c < 1114112 → ShowsRows t (rows_within (meets spans) rows) c) → SpeakingRowsMeetSpans
    → ((c : ℕ) → c < 1114112 → list_any (within c) spans ≡ false → old c ≡ facts rows c) → all_kept words rests ≡ facts rows
put_facts t rows spans words rests old point shows meet outside =
    facts_from_points words rests rows (λ c lt. facts_by (list_any (within c) spans) (all_kept words rests c) (old c) (made_facts t c) (facts rows c) (point c lt)
    (λ inside. (shows c lt).facts ∙ sym (facts_inside (rows_within (meets spans) rows) c (point_below c lt)) ∙ sym (facts_are_local (meets spans) rows c (λ row speaks. meet spans c row inside speaks)))
    (outside c lt))
