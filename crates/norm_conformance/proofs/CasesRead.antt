-- The cases of a file are those of its grammar, and its fault is the first one.
use Rattle.std.proofs.Common.{◌≡◌, ◌↔◌, ◌⊎◌, inl, inr, ℕ, Bool, true, false, ◌||◌, ◌==◌, List, [], ◌∷◌, ◌++◌, Result, Ok, Err, refl, sym, ap, subst, ◌∙◌, arith, true≢false}
use Rattle.std.specs.List.{AllByRecursion as Each}
use Rattle.std.proofs.lemmas.Bool.Decides.{nat_tests}
use Rattle.std.specs.Cmp.{both_ways}
use Rattle.norm_conformance.proofs.LinesSaid.{lines_are_said}
use Rattle.norm_conformance.specs.Cases.{CaseFault, NumberedLine, case_of, cases_from, cases_or_fault, numbered_lines, with_case, with_line, with_part}
use Rattle.norm_conformance.specs.Grammar.{AreCases, AreTests, CasesAreRead, FaultsAreFirst, FirstFault, HasPartOne, IsPart, SaysSome, marked, nothing_left, passed, tested}
use Rattle.norm_conformance.specs.Lines.{said}
use Rattle.norm_conformance.specs.declared.case.Case.{Case}
use Rattle.norm_conformance.specs.declared.case.Cases.{Cases}
use Rattle.norm_conformance.specs.declared.columns.Columns.{Columns}
use Rattle.norm_conformance.specs.declared.line.Line.{Line}
use Rattle.norm_conformance.specs.declared.line.Line.TheVariants.{Passed, Part, Tested}
use Rattle.norm_conformance.specs.declared.stop.CaseRule.{CaseRule}

abbrev Told : ℕ → List NumberedLine → Result Cases CaseFault → Type 0
Told part ls (Ok cases) = AreCases part ls cases.list × ((cases.part_one ≡ true) ↔ HasPartOne ls)
Told part ls (Err fault) = FirstFault ls fault

-- ---- one more line

later_fault : (l : NumberedLine) (ls : List NumberedLine) (fault : CaseFault) (line : Line) → said l.content ≡ Ok line → FirstFault ls fault → FirstFault (l ∷ ls) fault
later_fault l ls fault line says first = record {
  before = l ∷ first.before;
  content = first.content;
  rest = first.rest;
  cut = ap (λ (ks : List NumberedLine). l ∷ ks) first.cut;
  none_before = (record { line = line; says = says }, first.none_before);
  breaks = first.breaks;
}

part_one_behind : (l : NumberedLine) (ls : List NumberedLine) (one : Bool) → (IsPart l.content 1 → ⊥) → (one ≡ true) ↔ HasPartOne ls → (one ≡ true) ↔ HasPartOne (l ∷ ls)
part_one_behind l ls one other iff = ((λ e. inr (iff.0 e)), from) where
  from : IsPart l.content 1 ⊎ HasPartOne ls → one ≡ true
  from (inl is) = absurd (other is)
  from (inr h) = iff.1 h

other_line : (l : NumberedLine) (line : Line) → said l.content ≡ Ok line → (line ≡ Part 1 → ⊥) → IsPart l.content 1 → ⊥
other_line l line says other is =
    let part : said l.content ≡ Ok (Part 1) = ((lines_are_said l.content).part 1).1 is in
    let same : line ≡ Part 1 = cc in
    other same

passed_told : (part : ℕ) (l : NumberedLine) (ls : List NumberedLine) (r : Result Cases CaseFault) → said l.content ≡ Ok Passed → Told part ls r → Told part (l ∷ ls) r
passed_told part l ls (Ok cases) says told = (passed ((lines_are_said l.content).passed.0 says) told.0, part_one_behind l ls cases.part_one (other_line l Passed says (λ e. cc)) told.1)
passed_told part l ls (Err fault) says told = later_fault l ls fault Passed says told

part_one_marked : (k : ℕ) (l : NumberedLine) (ls : List NumberedLine) (one t : Bool) → (k == 1) ≡ t → said l.content ≡ Ok (Part k) → (one ≡ true) ↔ HasPartOne ls → ((t || one) ≡ true) ↔ HasPartOne (l ∷ ls)
part_one_marked k l ls one true e says iff =
    let same : k ≡ 1 = grind (arith, nat_tests) in
    ((λ h. inl (subst (IsPart l.content) same (((lines_are_said l.content).part k).0 says))), (λ h. refl))
part_one_marked k l ls one false e says iff =
    let other : ¬ (k ≡ 1) = grind (arith, nat_tests) in
    part_one_behind l ls one (other_line l (Part k) says (λ same. other (let one : k ≡ 1 = cc in one))) iff

marked_told : (part k : ℕ) (l : NumberedLine) (ls : List NumberedLine) (r : Result Cases CaseFault) → said l.content ≡ Ok (Part k) → Told k ls r → Told part (l ∷ ls) (with_part k r)
marked_told part k l ls (Ok cases) says told = (marked k (((lines_are_said l.content).part k).0 says) told.0, part_one_marked k l ls cases.part_one (k == 1) refl says told.1)
marked_told part k l ls (Err fault) says told = later_fault l ls fault (Part k) says told

tested_told : (part : ℕ) (columns : Columns) (l : NumberedLine) (ls : List NumberedLine) (r : Result Cases CaseFault) → said l.content ≡ Ok (Tested columns) → Told part ls r → Told part (l ∷ ls) (with_case (case_of l.number part columns) r)
tested_told part columns l ls (Ok cases) says told =
    (tested columns (((lines_are_said l.content).columns columns).0 says) told.0, part_one_behind l ls cases.part_one (other_line l (Tested columns) says (λ e. cc)) told.1)
tested_told part columns l ls (Err fault) says told = later_fault l ls fault (Tested columns) says told

line_told : (part : ℕ) (l : NumberedLine) (ls : List NumberedLine) (s : Result Line CaseRule) → said l.content ≡ s → ((next : ℕ) → Told next ls (cases_from next ls)) → Told part (l ∷ ls) (with_line l.number part s (λ next. cases_from next ls))
line_told part l ls (Ok Passed) says told = passed_told part l ls (cases_from part ls) says (told part)
line_told part l ls (Ok (Part k)) says told = marked_told part k l ls (cases_from k ls) says (told k)
line_told part l ls (Ok (Tested columns)) says told = tested_told part columns l ls (cases_from part ls) says (told part)
line_told part l ls (Err rule) says told = record { before = []; content = l.content; rest = ls; cut = refl; none_before = tt; breaks = says }

told : (ls : List NumberedLine) (part : ℕ) → Told part ls (cases_from part ls)
told [] part = (nothing_left, ((λ e. absurd (true≢false (sym e))), (λ h. absurd h)))
told (l ∷ ls) part = line_told part l ls (said l.content) refl (λ next. told ls next)

-- ---- the other way

given : {part : ℕ} {ls : List NumberedLine} {list : List Case} → AreCases part ls list → (one : Bool) × (cases_from part ls ≡ Ok (record { list = list; part_one = one }))
given nothing_left = (false, refl)
given (passed {part} {l} {ls} {cases} is more) = let rest = given more in (rest.0, rw ((lines_are_said l.content).passed.1 is) rest.1)
given (marked {part} {l} {ls} {cases} k is more) = let rest = given more in ((k == 1) || rest.0, rw (((lines_are_said l.content).part k).1 is) (ap (with_part k) rest.1))
given (tested {part} {l} {ls} {cases} columns is more) = let rest = given more in (rest.0, rw (((lines_are_said l.content).columns columns).1 is) (ap (with_case (case_of l.number part columns)) rest.1))

tests_given : (ls : List NumberedLine) (cases : Cases) → AreTests ls cases → cases_from 0 ls ≡ Ok cases
tests_given ls cases are =
    let g = given are.list in
    let t : Told 0 ls (Ok (record { list = cases.list; part_one = g.0 })) = subst (Told 0 ls) g.1 (told ls 0) in
    let same : g.0 ≡ cases.part_one = both_ways g.0 cases.part_one (λ e. are.part_one.1 (t.1.0 e)) (λ e. t.1.1 (are.part_one.0 e)) in
    g.1 ∙ ap (λ (b : Bool). Ok (record { list = cases.list; part_one = b })) same

said_on : (fault : CaseFault) (part : ℕ) (l : NumberedLine) (ls : List NumberedLine) (line : Line) → said l.content ≡ Ok line → ((next : ℕ) → cases_from next ls ≡ Err fault) → cases_from part (l ∷ ls) ≡ Err fault
said_on fault part l ls Passed says more = rw says (more part)
said_on fault part l ls (Part k) says more = rw says (ap (with_part k) (more k))
said_on fault part l ls (Tested columns) says more = rw says (ap (with_case (case_of l.number part columns)) (more part))

fault_given : (fault : CaseFault) (content : List ℕ) (rest before : List NumberedLine) (part : ℕ) → Each SaysSome before → said content ≡ Err fault.rule → cases_from part (before ++ record { number = fault.line; content = content } ∷ rest) ≡ Err fault
fault_given fault content rest [] part none breaks = rw breaks refl
fault_given fault content rest (l ∷ before) part none breaks =
    said_on fault part l (before ++ record { number = fault.line; content = content } ∷ rest) none.0.line none.0.says (λ next. fault_given fault content rest before next none.1 breaks)

-- ---- the laws

pub cases_are_read : CasesAreRead
unfolding cases_or_fault
cases_are_read bytes cases = (from, tests_given (numbered_lines bytes) cases) where
  from : cases_or_fault bytes ≡ Ok cases → AreTests (numbered_lines bytes) cases
  from e = let t : Told 0 (numbered_lines bytes) (Ok cases) = subst (Told 0 (numbered_lines bytes)) e (told (numbered_lines bytes) 0) in record { list = t.0; part_one = t.1 }

pub faults_are_first : FaultsAreFirst
unfolding cases_or_fault
faults_are_first bytes fault = (from, to) where
  from : cases_or_fault bytes ≡ Err fault → FirstFault (numbered_lines bytes) fault
  from e = subst (Told 0 (numbered_lines bytes)) e (told (numbered_lines bytes) 0)

  to : FirstFault (numbered_lines bytes) fault → cases_or_fault bytes ≡ Err fault
  to first = ap (cases_from 0) first.cut ∙ fault_given fault first.content first.rest first.before 0 first.none_before first.breaks
