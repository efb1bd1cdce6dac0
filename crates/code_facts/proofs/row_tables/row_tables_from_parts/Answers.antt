use Rattle.std.proofs.Common.{subst, sym, refl, ap, arith, length}
use Rattle.ucd_facts.specs.Facts.{data_row}
use Rattle.ucd_points.specs.declared.files.SourceFile.TheVariants.{UnicodeData}
use Rattle.code_facts.specs.RowLists.{sources_of}
use Rattle.code_facts.specs.DataTables.{data_now}
use Rattle.code_facts.specs.CaseImages.{KeepsImages}
use Rattle.fact_tables.specs.declared.case_images.CaseImages.{CaseImages}
use Rattle.code_facts.specs.Marks.{all_marks}
use Rattle.code_facts.proofs.MarkLemmas.{marks_small}
use Rattle.code_facts.proofs.FactLemmas.{row_shown, word_small}
use Rattle.code_facts.proofs.row_tables.row_tables_from_parts.Goals as goal

pub sum_of_tables-requires : goal.sum_of_tables-requires
sum_of_tables-requires c k lt =
    let sources = sources_of c.args.rows.now in
    let given = ap (λ d. d.word) (c.requires.gives k lt) in
    let small = word_small k (data_row (sources UnicodeData) k) (c.requires.class k) in
    let marked = c.requires.marks k lt in
    omega (arith, marks_small (length all_marks) sources k)

pub returns : goal.returns
returns c k lt =
    let sources = sources_of c.args.rows.now in
    row_shown _ sources k (data_now (record { words = c.args.data_words.now; lists = c.args.lists }) k) _ (c.requires.gives k lt)
    (c.in_ok-words.ensures k lt) (c.requires.marks k lt) refl refl refl refl (c.requires.class k)
    (subst (λ (maps : CaseImages). KeepsImages maps sources) (sym c.in_ok-cases.ensures.ok) c.in_ok-case_images.ensures)
