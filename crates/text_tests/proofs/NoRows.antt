-- Where UnicodeData.txt has no row, every code point is unassigned.
use Rattle.std.proofs.Common.{◌≡◌, ℕ, ◌<◌, List, [], ap, ◌∙◌}
use Rattle.ucd_facts.specs.Facts.{Facts, category_in, data_row, facts}
use Rattle.ucd_facts.specs.FactsLemmas.{facts_inside}
use Rattle.ucd_points.specs.Limits.{point_count}
use Rattle.ucd_facts.specs.declared.category.Category.TheVariants.{Cn}
use Rattle.ucd_points.specs.declared.files.SourceFile.TheVariants.{UnicodeData}
use Rattle.release_rows.specs.FileItems.{FileItem, rows_in}
use Rattle.release_rows.specs.Releases.{ReleaseItems, items_now, rows_now}

pub unassigned : (release : ReleaseItems) → items_now release UnicodeData ≡ [] → (c : ℕ) → c < point_count → (facts (rows_now release) c).category ≡ Cn
unassigned release none c below = ap (λ (F : Facts). F.category) (facts_inside (rows_now release) c below) ∙ ap (λ (items : List FileItem). category_in (data_row (rows_in items) c)) none
