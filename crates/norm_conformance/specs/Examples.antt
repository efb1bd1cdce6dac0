-- What the definitions give at small examples. The lines are those of NormalizationTest.txt, or have one thing changed.
-- grave             the columns of 00C0
-- on n part         the case of these columns on line n, in this part
use Rattle.std.proofs.Common.{◌≡◌, ℕ, true, false, [], ◌∷◌, Ok, Err, codes, refl, nat_lt}
use Rattle.ucd_points.specs.Fields.{fields, point_of}
use Rattle.ucd_points.specs.Lines.{items_of}
use Rattle.ucd_points.specs.MissingLines.{missing_rest}
use Rattle.ucd_facts.specs.Mappings.{mapping_of, words}
use Rattle.ucd_facts.specs.declared.form.Form.TheVariants.{Nfd, Nfc, Nfkc}
use Rattle.norm_conformance.specs.Cases.{case_of, cases_or_fault}
use Rattle.norm_conformance.specs.Lines.{said}
use Rattle.norm_conformance.specs.Misses.{expected, is_listed, missed_columns}
use Rattle.norm_conformance.specs.declared.case.Case.{Case}
use Rattle.norm_conformance.specs.declared.columns.Columns.{Columns}
use Rattle.norm_conformance.specs.declared.line.Line.TheVariants.{Passed, Part, Tested}
use Rattle.norm_conformance.specs.declared.miss.Miss.TheVariants.{Line}
use Rattle.norm_conformance.specs.declared.stop.CaseRule.TheVariants.{N1, N2, N3}

abbrev grave : Columns
grave = record { c1 = 0xC0 ∷ []; c2 = 0xC0 ∷ []; c3 = 0x41 ∷ 0x300 ∷ []; c4 = 0xC0 ∷ []; c5 = 0x41 ∷ 0x300 ∷ [] }

abbrev on : ℕ → ℕ → Case
on n part = case_of n part grave

line_examples : (said (codes "# All characters not explicitly occurring") ≡ Ok Passed)
    × (said (codes "@Part1 # Character by character test") ≡ Ok (Part 1))
    × (said (codes "@Part12") ≡ Err N3)
    × (said (codes "@Part") ≡ Err N3)
    × (said (codes "00C0;00C0;0041 0300;00C0;0041 0300; # A") ≡ Ok (Tested grave))
    × (said (codes "00C0;00C0;0041 0300;00C0;0041 0300") ≡ Ok (Tested grave))
    × (said (codes "00C0;00C0") ≡ Err N1)
    × (said (codes "00C0;00C0;0041 0300;00C0;0041 0300;;") ≡ Err N1)
    × (said (codes "00C0;00C0;0041 0300;00C0;") ≡ Err N2)
    × (said (codes "00C0;00C0;0041 0300;00C0;0041,0300") ≡ Err N2)
unfolding fields missing_rest mapping_of words point_of
line_examples = (refl, refl, refl, refl, refl, refl, refl, refl, refl, refl)

file_examples : (cases_or_fault (codes "@Part1 # A\r\n00C0;00C0;0041 0300;00C0;0041 0300; # A\n") ≡ Ok (record { list = on 2 1 ∷ []; part_one = true }))
    × (cases_or_fault (codes "00C0;00C0;0041 0300;00C0;0041 0300;\n@Part2") ≡ Ok (record { list = on 1 0 ∷ []; part_one = false }))
    × (cases_or_fault [] ≡ Ok (record { list = []; part_one = false }))
    × (cases_or_fault (codes "\n00C0;00C0\n@Part") ≡ Err (record { line = 2; rule = N1 }))
unfolding cases_or_fault items_of fields missing_rest mapping_of words point_of
file_examples = (refl, refl, refl, refl)

-- for NFC and NFD the last two columns are tested against another column than the first three
expected_examples : (expected (on 2 1) Nfd 5 ≡ 0x41 ∷ 0x300 ∷ []) × (expected (on 2 1) Nfc 3 ≡ 0xC0 ∷ []) × (expected (on 2 1) Nfkc 1 ≡ 0xC0 ∷ [])
    × (missed_columns 2 Nfc (λ k. nat_lt 3 k) ≡ Line 2 Nfc 1 ∷ Line 2 Nfc 2 ∷ Line 2 Nfc 3 ∷ [])
expected_examples = (refl, refl, refl, refl)

-- 00C0 is listed by a case of part 1 alone
listed_examples : (is_listed (on 2 1 ∷ []) 0xC0 ≡ true) × (is_listed (on 2 0 ∷ []) 0xC0 ≡ false) × (is_listed (on 2 1 ∷ []) 0x41 ≡ false)
listed_examples = (refl, refl, refl)
