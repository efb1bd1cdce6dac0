use Rattle.std.proofs.Common.{◌≡◌, ap, ◌∙◌}
use Rattle.ucd_facts.specs.Facts.{Sources, given}
use Rattle.code_facts.specs.RowLists.{sources_of}
use Rattle.release_rows.specs.Touching.{meets}
use Rattle.code_facts.specs.Locality.{rows_within}
use Rattle.release_rows.specs.Releases.{rows_next}
use Rattle.fact_tables.specs.Word.{packed}
use Rattle.code_facts.proofs.FactLemmas.{same_given}
use Rattle.code_facts.proofs.from_release.next_tables_touching.Goals as goal

pub returns : goal.returns
returns c = λ k lt.
    let rows : Sources = rows_within (meets c.args.spans.now) (rows_next c.args.release.now) in
    let lists = c.in_ok-rows.ensures.rows in
    let shown = c.in_ok-made.ensures k lt in
    let same : given (sources_of c.in_ok-rows.rows) k ≡ given rows k = same_given (sources_of c.in_ok-rows.rows) rows lists.unicode_data lists.case_folding lists.special_casing lists.prop_list lists.word_break lists.exclusions k in
    record { facts = shown.facts ∙ same; word = shown.word ∙ ap packed same }
