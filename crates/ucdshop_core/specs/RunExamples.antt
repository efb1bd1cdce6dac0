-- What a run is asked for, reads, writes and tells, at small examples. The lines are those that the manual prints.
-- words                    the words of a command line, cut at its spaces
-- nine_absent              nine files that are not there
use Rattle.std.proofs.Common.{◌≡◌, ℕ, List, [], ◌∷◌, map, Some, None, ◌==◌, refl, codes}
use Rattle.std.specs.Fmt.{digits}
use Rattle.std.specs.List.{slice_split}
use Rattle.ucd_points.specs.HexText.{hex_text}
use Rattle.ucd_points.specs.declared.files.SourceFile.TheVariants.{UnicodeData}
use Rattle.ucd_facts.specs.declared.form.Bad.TheVariants.{V1}
use Rattle.release_rows.specs.declared.key_rule.KeyRule.TheVariants.{K1}
use Rattle.edit_session.specs.declared.apply_stop.Refused.TheVariants.{Key, Valid}
use Rattle.unicodeset_eval.specs.declared.stop.NameRule.TheVariants.{S8}
use Rattle.unicodeset_parser.specs.declared.stop.SetRule.TheVariants.{S4}
use Rattle.run_endings.specs.Endings.{NoForm, Refuses, Seen, expected, needed}
use Rattle.run_endings.specs.Printed.{read_failed, write_failed}
use Rattle.run_inputs.specs.GroupLines.{accepted_line, refused_line}
use Rattle.run_inputs.specs.Verdict.{file_verdict}
use Rattle.ucdshop_jobs.specs.Jobs.{apply_job, compare_job, derive_job, form, make_job, output_paths}
use Rattle.ucdshop_jobs.specs.Printed.{made_release, made_summary, summary}
use Rattle.ucdshop_jobs.specs.Run.{ucdshop}
use Rattle.ucdshop_jobs.specs.Session.{set_line, unasked_line}
use Rattle.set_answers.specs.declared.ask_stop.AskRule.TheVariants.{Name, Text}

abbrev words : List ℕ → List (List ℕ)
words line = slice_split (λ b. b == 32) line

-- ---- the forms

derives : form (words (codes "derive data out")) ≡ Some (derive_job (codes "data") (codes "out"))
derives = refl

applies : form (words (codes "apply data script.txt out")) ≡ Some (apply_job (codes "data") (codes "script.txt") (codes "out"))
applies = refl

compares : form (words (codes "apply data script.txt out earlier")) ≡ Some (compare_job (codes "data") (codes "script.txt") (codes "out") (codes "earlier"))
compares = refl

makes : form (words (codes "make 50 out")) ≡ Some (make_job 50 (codes "out"))
makes = refl

no_forms : map (λ line. form (words line)) (codes "derive data" ∷ codes "derive data script.txt out" ∷ codes "make 51 out" ∷ codes "apply data out" ∷ codes "" ∷ [])
    ≡ None ∷ None ∷ None ∷ None ∷ None ∷ []
no_forms = refl

told_usage : expected ucdshop (words (codes "derive data")) [] ≡ NoForm
told_usage = refl

-- ---- what is read and written

reads : needed ucdshop (words (codes "apply d s.txt o e"))
    ≡ codes "d/UnicodeData.txt" ∷ codes "d/PropList.txt" ∷ codes "d/Scripts.txt" ∷ codes "d/auxiliary/WordBreakProperty.txt" ∷ codes "d/CompositionExclusions.txt"
    ∷ codes "d/CaseFolding.txt" ∷ codes "d/SpecialCasing.txt" ∷ codes "d/PropertyAliases.txt" ∷ codes "d/PropertyValueAliases.txt" ∷ codes "s.txt"
    ∷ codes "e/UnicodeData.txt" ∷ codes "e/PropList.txt" ∷ codes "e/Scripts.txt" ∷ codes "e/auxiliary/WordBreakProperty.txt" ∷ codes "e/CompositionExclusions.txt"
    ∷ codes "e/CaseFolding.txt" ∷ codes "e/SpecialCasing.txt" ∷ codes "e/PropertyAliases.txt" ∷ codes "e/PropertyValueAliases.txt" ∷ []
reads = refl

reads_nothing : needed ucdshop (words (codes "make 1 o")) ≡ []
reads_nothing = refl

writes_derived : output_paths (derive_job (codes "d") (codes "o"))
    ≡ codes "o/DerivedCoreProperties.txt" ∷ codes "o/DerivedNormalizationProps.txt" ∷ codes "o/extracted/DerivedGeneralCategory.txt"
    ∷ codes "o/extracted/DerivedCombiningClass.txt" ∷ codes "o/extracted/DerivedDecompositionType.txt" ∷ []
writes_derived = refl

-- ---- what refuses

abbrev nine_absent : Seen
nine_absent = None ∷ None ∷ None ∷ None ∷ None ∷ None ∷ None ∷ None ∷ None ∷ []

absent_files : expected ucdshop (words (codes "derive d o")) nine_absent ≡ Refuses (codes "refused: d/UnicodeData.txt line 0 G01\n")
unfolding file_verdict digits
absent_files = refl

failed_lines : read_failed (codes "data/Scripts.txt") ∷ write_failed (codes "out/bench.log") ∷ [] ≡ codes "read failed: data/Scripts.txt\n" ∷ codes "write failed: out/bench.log\n" ∷ []
failed_lines = refl

-- ---- the log

log_lines : accepted_line 1 2 ∷ refused_line 1 (Key K1 1) ∷ refused_line 9 (Valid V1 192) ∷ set_line 6 1 ∷ unasked_line 1 (record { rule = Text S4; at = 3 }) ∷ unasked_line 1 (record { rule = Name S8; at = 0 }) ∷ []
    ≡ codes "1 accepted 2\n" ∷ codes "1 refused K1 operation 1\n" ∷ codes "9 refused V1 point 00C0\n" ∷ codes "6 set 1\n" ∷ codes "1 refused S4 byte 3\n" ∷ codes "1 refused S8 byte 0\n" ∷ []
unfolding digits hex_text
log_lines = refl

-- ---- the summaries

summaries : summary (record { accepted = 1; refused = 1; answered = 0; broken = 0 }) ∷ made_summary (record { number = 1; rows = 3001; accepted = 1000; changed = 2000; casefolds = 2000 }) ∷ []
    ≡ codes "ucdshop: 1 groups accepted, 1 commands refused, 0 sets answered, 0 policy breaks\n"
    ∷ codes "ucdshop: make 1: 3001 rows, 1000 groups accepted, 2000 code points changed, 2000 casefold entries\n" ∷ []
unfolding digits made_release
summaries = refl
