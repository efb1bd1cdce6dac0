-- What the rows so far give to each code point.
use Rattle.std.proofs.Common.{◌≡◌, ℕ, ◌+◌, ◌<◌, ◌≤◌, Bool, true, false, cond, List, [], ◌∷◌, length, take, get_or, Option, Some, None, refl, sym, ap, subst, ◌∙◌, arith}
use Rattle.std.proofs.lemmas.List.{take_all}
use Rattle.ucd_facts.specs.Facts.{is_data_of, within, data_in, data_row, class_in}
use Rattle.ucd_facts.specs.declared.row.Row.{Row}
use Rattle.ucd_facts.specs.declared.row.DataRow.{DataRow}
use Rattle.ucd_facts.specs.declared.row.Row.TheVariants.{Unit as DataLine, Value as ValueLine, Exclusion as ExclusionLine, Fold as FoldLine, Casing as CasingLine, Alias as AliasLine, Missing as MissingLine}
use Rattle.ucd_points.specs.Bounds.{Bounds}
use Rattle.source_rows.specs.PointValues.{Gives}
use Rattle.source_rows.specs.declared.point_values.PointValues.{PointValues}
use Rattle.release_rows.specs.Given.{ShowsGiven}
use Rattle.code_facts.specs.Rows.{Apart, PointData, row_data}
use Rattle.code_facts.specs.DataTables.{Adds, IsFresh, given_row}
use Rattle.code_facts.proofs.RowLemmas.{data_step}

-- the first n rows give what the table shows
pub record RowsGive (rows : List Row) (n : ℕ) (shows : ℕ → PointData) : Type 0 where
  pub gives : (c : ℕ) → c < 1114112 → shows c ≡ row_data c (data_row (take n rows) c)
  pub class : (c : ℕ) → class_in (data_row (take n rows) c) < 256

pub rows_none : (rows : List Row) (shows : ℕ → PointData) → ((c : ℕ) → c < 1114112 → shows c ≡ row_data c None) → RowsGive rows 0 shows
rows_none [] shows h = record { gives = h; class = λ c. omega arith }
rows_none (row ∷ rows) shows h = record { gives = h; class = λ c. omega arith }

class_by : (b : Bool) (row : DataRow) (o : Option DataRow) → row.class < 256 → class_in o < 256 → class_in (cond b (Some row) o) < 256
class_by true row o here rest = here
class_by false row o here rest = rest

gives_by : (b : Bool) (c : ℕ) (row : DataRow) (o : Option DataRow) (new old : PointData) → new ≡ cond b (row_data c (Some row)) old → old ≡ row_data c o → new ≡ row_data c (cond b (Some row) o)
gives_by true c row o new old is was = is
gives_by false c row o new old is was = is ∙ was

-- no row above has given the points of a row anything
fresh_by : (rows : List Row) (i : ℕ) (d row : Row) (shows : ℕ → PointData) → Apart rows → i < length rows → get_or rows i d ≡ row → RowsGive rows i shows → IsFresh row shows
fresh_by rows i d (DataLine row) shows apart h is old = λ c lt covers. old.gives c lt ∙ ap (λ o. row_data c (data_in o)) (apart i c d h (ap (is_data_of c) is ∙ covers))
fresh_by rows i d (ValueLine row) shows apart h is old = tt
fresh_by rows i d (ExclusionLine row) shows apart h is old = tt
fresh_by rows i d (FoldLine row) shows apart h is old = tt
fresh_by rows i d (CasingLine row) shows apart h is old = tt
fresh_by rows i d (AliasLine row) shows apart h is old = tt
fresh_by rows i d (MissingLine row) shows apart h is old = tt

pub row_is_fresh : (rows : List Row) (i : ℕ) (d : Row) (shows : ℕ → PointData) → Apart rows → i < length rows → RowsGive rows i shows → IsFresh (get_or rows i d) shows
row_is_fresh rows i d shows apart h old = fresh_by rows i d (get_or rows i d) shows apart h refl old

-- one more row of UnicodeData.txt
rows_taken : (rows : List Row) (i : ℕ) (d : Row) (row : DataRow) (shows new : ℕ → PointData) → Apart rows → i < length rows → get_or rows i d ≡ DataLine row → row.class < 256
    → ((c : ℕ) → c < 1114112 → new c ≡ cond (within c row.span) (row_data c (Some row)) (shows c)) → RowsGive rows i shows → RowsGive rows (i + 1) new
rows_taken rows i d row shows new apart h is small add old =
    let step : (c : ℕ) → data_row (take (i + 1) rows) c ≡ cond (within c row.span) (Some row) (data_row (take i rows) c) = λ c. rw is at (data_step rows i c d apart h) in
    record {
      gives = λ c lt. gives_by (within c row.span) c row (data_row (take i rows) c) (new c) (shows c) (add c lt) (old.gives c lt) ∙ ap (row_data c) (sym (step c));
      class = λ c. subst (λ (o : Option DataRow). class_in o < 256) (sym (step c)) (class_by (within c row.span) row (data_row (take i rows) c) small (old.class c));
    }

-- a row of another kind gives nothing
rows_skipped : (rows : List Row) (i : ℕ) (d : Row) (shows : ℕ → PointData) → Apart rows → i < length rows → ((c : ℕ) → is_data_of c (get_or rows i d) ≡ false) → RowsGive rows i shows → RowsGive rows (i + 1) shows
rows_skipped rows i d shows apart h none old =
    let step : (c : ℕ) → data_row (take (i + 1) rows) c ≡ data_row (take i rows) c = λ c. rw (none c) at (data_step rows i c d apart h) in
    record {
      gives = λ c lt. old.gives c lt ∙ ap (row_data c) (sym (step c));
      class = λ c. subst (λ (o : Option DataRow). class_in o < 256) (sym (step c)) (old.class c);
    }

-- what is shown in the same way is given too
rows_same : (rows : List Row) (n : ℕ) (shows new : ℕ → PointData) → ((c : ℕ) → c < 1114112 → new c ≡ shows c) → RowsGive rows n shows → RowsGive rows n new
rows_same rows n shows new same old = record { gives = λ c lt. same c lt ∙ old.gives c lt; class = old.class }

-- one more row of any kind
added_by : (rows : List Row) (i : ℕ) (d row : Row) (shows new : ℕ → PointData) → Apart rows → i < length rows → get_or rows i d ≡ row → Adds row shows new → RowsGive rows i shows → RowsGive rows (i + 1) new
added_by rows i d (DataLine row) shows new apart h is adds old = rows_taken rows i d row shows new apart h is adds.0 adds.1 old
added_by rows i d (ValueLine row) shows new apart h is adds old = rows_same rows (i + 1) shows new adds (rows_skipped rows i d shows apart h (λ c. ap (is_data_of c) is) old)
added_by rows i d (ExclusionLine row) shows new apart h is adds old = rows_same rows (i + 1) shows new adds (rows_skipped rows i d shows apart h (λ c. ap (is_data_of c) is) old)
added_by rows i d (FoldLine row) shows new apart h is adds old = rows_same rows (i + 1) shows new adds (rows_skipped rows i d shows apart h (λ c. ap (is_data_of c) is) old)
added_by rows i d (CasingLine row) shows new apart h is adds old = rows_same rows (i + 1) shows new adds (rows_skipped rows i d shows apart h (λ c. ap (is_data_of c) is) old)
added_by rows i d (AliasLine row) shows new apart h is adds old = rows_same rows (i + 1) shows new adds (rows_skipped rows i d shows apart h (λ c. ap (is_data_of c) is) old)
added_by rows i d (MissingLine row) shows new apart h is adds old = rows_same rows (i + 1) shows new adds (rows_skipped rows i d shows apart h (λ c. ap (is_data_of c) is) old)

pub rows_added : (rows : List Row) (i : ℕ) (d : Row) (shows new : ℕ → PointData) → Apart rows → i < length rows → Adds (get_or rows i d) shows new → RowsGive rows i shows → RowsGive rows (i + 1) new
rows_added rows i d shows new apart h adds old = added_by rows i d (get_or rows i d) shows new apart h refl adds old

pub rows_all : (rows : List Row) (n : ℕ) (shows : ℕ → PointData) → length rows ≤ n → RowsGive rows n shows → ((c : ℕ) → c < 1114112 → shows c ≡ row_data c (data_row rows c)) × ((c : ℕ) → class_in (data_row rows c) < 256)
rows_all rows n shows h old =
    let all : take n rows ≡ rows = take_all n rows h in
    (λ c lt. rw all at (old.gives c lt), λ c. rw all at (old.class c))

-- ---- what is given of a row

data_same : (given : PointValues) (row : DataRow) (c : ℕ) → Gives given row → row_data c (Some row) ≡ row_data c (Some (given_row given))
data_same given row c g = rw (g.category, g.class, g.kind, g.mapping, g.upper, g.lower, g.title) refl

pub adds_given : (given : PointValues) (row : Row) (old new : ℕ → PointData) → ShowsGiven (Some given) row → given.values.class < 256
    → ((c : ℕ) → c < 1114112 → new c ≡ cond (within c given.span) (row_data c (Some (given_row given))) (old c)) → Adds row old new
adds_given given (DataLine row) old new g small gives = (
  subst (λ (n : ℕ). n < 256) (sym g.class) small,
  λ c lt. gives c lt ∙ ap (λ (d : PointData). cond (within c given.span) d (old c)) (sym (data_same given row c g)) ∙ ap (λ (s : Bounds). cond (within c s) (row_data c (Some row)) (old c)) (sym g.span),
)
adds_given given (ValueLine row) old new g small gives = absurd g
adds_given given (ExclusionLine row) old new g small gives = absurd g
adds_given given (FoldLine row) old new g small gives = absurd g
adds_given given (CasingLine row) old new g small gives = absurd g
adds_given given (AliasLine row) old new g small gives = absurd g
adds_given given (MissingLine row) old new g small gives = absurd g
