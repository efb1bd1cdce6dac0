-- The invariants of NormalizationTest.txt that a release misses. The head of that file, "CONFORMANCE".
--
-- F is the facts of each code point.
-- forms                          the four forms, in the order in which misses stand
-- column case k                  column k of a case, from 1 to 5
-- expected case form k           what this form of column k must be: of NFC c2 for the first three columns and c4 for the others, of
--                                NFD c3 and c5, of NFKC c4 and of NFKD c5 for all
-- is_list value t                the value is the list t
-- is_form F form s t             this form of s is t
-- unless kept miss               no miss where it is kept, else that one
-- column_miss n form k           the miss of a form of column k of the case on line n
-- missed_columns n form kept     the misses of the columns that are not kept
-- line_misses F case             invariant 1: the misses of a case, by form, then by column
-- point_miss c form              the miss of a form of the code point c
-- missed_forms F c               the forms of c alone that are not c alone
-- is_listed cases c              c alone is the source of a case of part 1
-- misses_at F listed c           those forms, where c is assigned and not listed
-- unlisted_misses F listed       invariant 2: the misses of all code points, ascending, by form
-- misses F cases                 the misses of each case in order, and behind them, where the file has a part 1, those of invariant 2
use Rattle.std.specs.Prelude.{ℕ, Bool, false, ◌&&◌, not, List, [], ◌∷◌, ◌++◌, Result, Ok, Err, ◌==◌, nat_lt, if◌then◌else◌, bytes_eq}
use Rattle.std.specs.List.{flat_map, list_any, range_with_len}
use Rattle.ucd_points.specs.Limits.{point_count}
use Rattle.ucd_facts.specs.Facts.{Facts}
use Rattle.ucd_facts.specs.declared.form.Bad.{Bad as Rule}
use Rattle.ucd_facts.specs.declared.form.Form.{Form}
use Rattle.ucd_facts.specs.declared.form.Form.TheVariants.{Nfd, Nfc, Nfkd, Nfkc}
use Rattle.normalisation.specs.FormValues.{form_of}
use Rattle.norm_conformance.specs.declared.case.Case.{Case}
use Rattle.norm_conformance.specs.declared.case.Cases.{Cases}
use Rattle.norm_conformance.specs.declared.miss.Miss.{Miss}
use Rattle.norm_conformance.specs.declared.miss.Miss.TheVariants.{Line, Point}

abbrev pub forms : List Form
forms = Nfd ∷ Nfc ∷ Nfkd ∷ Nfkc ∷ []

abbrev pub column : Case → ℕ → List ℕ
column case k = if k == 1 then case.c1 else (if k == 2 then case.c2 else (if k == 3 then case.c3 else (if k == 4 then case.c4 else case.c5)))

abbrev pub expected : Case → Form → ℕ → List ℕ
expected case Nfc k = if nat_lt k 4 then case.c2 else case.c4
expected case Nfd k = if nat_lt k 4 then case.c3 else case.c5
expected case Nfkc k = case.c4
expected case Nfkd k = case.c5

abbrev pub is_list : Result (List ℕ) Rule → List ℕ → Bool
is_list (Ok points) t = bytes_eq points t
is_list (Err rule) t = false

abbrev pub is_form : (ℕ → Facts) → Form → List ℕ → List ℕ → Bool
is_form F form s t = is_list (form_of F form s) t

abbrev pub unless : Bool → Miss → List Miss
unless kept miss = if kept then [] else miss ∷ []

-- ---- of a case

abbrev pub column_miss : ℕ → Form → ℕ → Miss
column_miss n form k = Line n form k

abbrev pub missed_columns : ℕ → Form → (ℕ → Bool) → List Miss
missed_columns n form kept = flat_map (λ k. unless (kept k) (column_miss n form k)) (1 ∷ 2 ∷ 3 ∷ 4 ∷ 5 ∷ [])

abbrev pub line_misses : (ℕ → Facts) → Case → List Miss
line_misses F case = flat_map (λ form. missed_columns case.line form (λ k. is_form F form (column case k) (expected case form k))) forms

-- ---- of a code point

abbrev pub point_miss : ℕ → Form → Miss
point_miss c form = Point c form

abbrev pub missed_forms : (ℕ → Facts) → ℕ → List Miss
missed_forms F c = flat_map (λ form. unless (is_form F form (c ∷ []) (c ∷ [])) (point_miss c form)) forms

abbrev pub is_listed : List Case → ℕ → Bool
is_listed cases c = list_any (λ case. (case.part == 1) && bytes_eq case.c1 (c ∷ [])) cases

abbrev pub misses_at : (ℕ → Facts) → (ℕ → Bool) → ℕ → List Miss
misses_at F listed c = if (F c).assigned && not (listed c) then missed_forms F c else []

unfoldable pub unlisted_misses : (ℕ → Facts) → (ℕ → Bool) → List Miss
unlisted_misses F listed = flat_map (misses_at F listed) (range_with_len 0 point_count)

-- ---- all

unfoldable pub misses : (ℕ → Facts) → Cases → List Miss
misses F cases = flat_map (line_misses F) cases.list ++ (if cases.part_one then unlisted_misses F (is_listed cases.list) else [])
