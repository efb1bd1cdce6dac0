-- Proofs of the laws of the facts of rows.
-- kinds_are_mapped   the law of the same name
use Rattle.std.proofs.Common.{◌≡◌, ◌≢◌, ℕ, ◌+◌, ◌-◌, ◌/◌, ◌%◌, Bool, true, false, cond, ◌==◌, if◌then◌else◌, List, [], ◌∷◌, length, Option, Some, None, find, refl, sym, ap, subst, ◌∙◌, arith, inl, inr, All}
use Rattle.std.proofs.lemmas.Bool.{true≢false, cases_lt}
use Rattle.std.proofs.lemmas.List.Elements.{All-head, All-tail}
use Rattle.ucd_points.specs.Limits.{point_count}
use Rattle.ucd_facts.specs.Facts.{is_data_of, data_in, data_row, maps_by_rule, kind_in, mapping_in, hangul_mapping, is_plain}
use Rattle.ucd_facts.specs.declared.decomposition.Kind.{Kind}
use Rattle.ucd_facts.specs.declared.decomposition.Kind.TheVariants.{Plain, Canonical}
use Rattle.ucd_facts.specs.FactsLemmas.{facts_inside, facts_outside}
use Rattle.ucd_facts.specs.RowValues.{RowOk, DataOk, DecompositionOk}
use Rattle.ucd_laws.specs.RowLaws.{KindsAreMapped}
use Rattle.ucd_points.specs.declared.files.SourceFile.TheVariants.{UnicodeData}
use Rattle.ucd_facts.specs.declared.row.DataRow.{DataRow}
use Rattle.ucd_facts.specs.declared.row.Row.{Row}
use Rattle.ucd_facts.specs.declared.row.Row.TheVariants.{Unit as DataLine}

-- ---- kinds and mappings

some_row : (a b : DataRow) → Some a ≡ Some b → a ≡ b
some_row a b e = cc

row_ok : (x : Row) (row : DataRow) → RowOk UnicodeData x → data_in (Some x) ≡ Some row → DataOk row
row_ok (DataLine y) row ok e = subst DataOk (some_row y row e) ok
row_ok _ row ok e = cc

row_step : (x : Row) (rest : Option Row) (row : DataRow) (t : Bool) → RowOk UnicodeData x → (data_in rest ≡ Some row → DataOk row) → data_in (cond t (Some x) rest) ≡ Some row → DataOk row
row_step x rest row true ok later e = row_ok x row ok e
row_step x rest row false ok later e = later e

found_ok : (c : ℕ) (rows : List Row) (row : DataRow) → All (RowOk UnicodeData) rows → data_row rows c ≡ Some row → DataOk row
found_ok c [] row ok e = cc
found_ok c (x ∷ xs) row ok e =
    row_step x (find (is_data_of c) xs) row (is_data_of c x) (All-head (RowOk UnicodeData) x xs ok) (λ later. found_ok c xs row (All-tail (RowOk UnicodeData) x xs ok) later) e

hangul_some : (c : ℕ) → hangul_mapping c ≢ []
hangul_some c = by ((c - 0xAC00) % 28 == 0) where
  by : (t : Bool) → (if t then (0x1100 + (c - 0xAC00) / 588) ∷ (0x1161 + (c - 0xAC00) % 588 / 28) ∷ [] else (c - (c - 0xAC00) % 28) ∷ (0x11A7 + (c - 0xAC00) % 28) ∷ []) ≢ []
  by true = λ e. cc
  by false = λ e. cc

kind_some : (kind : Kind) (mapping : List ℕ) → DecompositionOk kind mapping → is_plain kind ≡ false → mapping ≢ []
kind_some Plain mapping ok e = absurd (true≢false e)
kind_some _ mapping ok e = λ none. absurd (omega (arith, ok.1, ap length none))

row_mapped : (c : ℕ) (row : DataRow) (t : Bool) → DataOk row → is_plain (if t then Canonical else row.kind) ≡ false → (if t then hangul_mapping c else row.mapping) ≢ []
row_mapped c row true ok e = hangul_some c
row_mapped c row false ok e = kind_some row.kind row.mapping ok.decomposition e

mapped : (c : ℕ) (found : Option DataRow) → ((row : DataRow) → found ≡ Some row → DataOk row) → is_plain (kind_in c found) ≡ false → mapping_in c found ≢ []
mapped c None ok e = absurd (true≢false e)
mapped c (Some row) ok e = row_mapped c row (maps_by_rule c row) (ok row refl) e

pub kinds_are_mapped : KindsAreMapped
kinds_are_mapped rows ok c e =
    elim (cases_lt c point_count) [
      | inl lt ↦ λ none. mapped c (data_row (rows UnicodeData) c) (λ row found. found_ok c (rows UnicodeData) row ok found)
          (sym (ap (λ G. is_plain G.kind) (facts_inside rows c lt)) ∙ e) (sym (ap (λ G. G.mapping) (facts_inside rows c lt)) ∙ none)
      | inr le ↦ absurd (true≢false (sym (ap (λ G. is_plain G.kind) (facts_outside rows c le)) ∙ e))
    ]
