-- A key that has no hash has no row, and a row of it overlaps none.
use Rattle.std.proofs.Common.{◌≡◌, ℕ, ◌==◌, Bool, true, false, ◌&&◌, List, Option, Some, None, refl, sym, ap, ◌∙◌}
use Rattle.std.proofs.lemmas.Bool.{and_parts, eqb-true}
use Rattle.std.proofs.lemmas.List.Elements.{All-weaker}
use Rattle.std.proofs.lemmas.List.Folds.{list_any_none}
use Rattle.ucd_points.specs.declared.files.SourceFile.TheVariants.{UnicodeData, PropList, Scripts, WordBreakProperty, CompositionExclusions, CaseFolding, SpecialCasing, PropertyAliases, PropertyValueAliases}
use Rattle.source_rows.specs.Keys.{key_names, row_span, same_texts}
use Rattle.part_list.specs.declared.seen_numbers.SeenNumbers.{SeenNumbers}
use Rattle.part_list.specs.SeenNumbers.{may_have}
use Rattle.release_rows.specs.FileItems.{FileItem, SourceFile, Row}
use Rattle.release_rows.specs.Noted.{AreNoted, OptionNoted, ItemNoted, RowNoted, key_hash}
use Rattle.release_rows.specs.Keys.{has_spans, overlaps, own_span, same_key, spans_meet}
use Rattle.release_rows.specs.Operations.{holds_row, row_passes}
use Rattle.release_rows.proofs.Seeking.{names_equal}
use Rattle.release_rows.proofs.Tagging.{names_same}

abbrev hash_of : SourceFile → Row → ℕ
hash_of file row = key_hash file (row_span row).lo (key_names file row)

names_of : (file : SourceFile) (row other : Row) → same_texts (key_names file row) (key_names file other) ≡ true → key_names file row ≡ key_names file other
names_of file row other alike =
    names_same (key_names file row) (key_names file other) (names_equal (key_names file row) (key_names file other) ∙ alike)

same_hash : (file : SourceFile) (row other : Row) → same_key file row other ≡ true → hash_of file row ≡ hash_of file other
same_hash file row other same =
    let both = and_parts (same_texts (key_names file row) (key_names file other)) ((row_span row).lo == (row_span other).lo) same in
    rw (eqb-true (row_span row).lo (row_span other).lo both.1, names_of file row other both.0) refl

-- the hash of a row that may overlap others is that of its names alone
spans_hash : (file : SourceFile) (a b : ℕ) (names : List (List ℕ)) → has_spans file ≡ true → key_hash file a names ≡ key_hash file b names
spans_hash UnicodeData a b names spans = refl
spans_hash PropList a b names spans = refl
spans_hash Scripts a b names spans = refl
spans_hash WordBreakProperty a b names spans = refl
spans_hash CompositionExclusions a b names spans = refl
spans_hash CaseFolding a b names spans = refl
spans_hash SpecialCasing a b names spans = absurd cc
spans_hash PropertyAliases a b names spans = refl
spans_hash PropertyValueAliases a b names spans = refl

overlap_hash : (file : SourceFile) (row other : Row) → overlaps file row other ≡ true → hash_of file row ≡ hash_of file other
overlap_hash file row other meet =
    let both = and_parts (has_spans file) (same_texts (key_names file row) (key_names file other) && spans_meet (own_span row) (own_span other)) meet in
    let alike = and_parts (same_texts (key_names file row) (key_names file other)) (spans_meet (own_span row) (own_span other)) both.1 in
    spans_hash file (row_span row).lo (row_span other).lo (key_names file row) both.0
    ∙ ap (key_hash file (row_span other).lo) (names_of file row other alike.0)

noted : (file : SourceFile) (seen_hashes : SeenNumbers) (row other : Row) → hash_of file row ≡ hash_of file other → may_have seen_hashes (hash_of file row) ≡ false → RowNoted file seen_hashes other → ⊥
noted file seen_hashes row other same lacks has =
    let e : false ≡ true = sym lacks ∙ ap (may_have seen_hashes) same ∙ has.key in
    absurd (cc)

-- of rows that a test passes alone if they have the hash
module _ (file : SourceFile) (seen_hashes : SeenNumbers) (row : Row) (p : Row → Bool) (alike : (other : Row) → p other ≡ true → hash_of file row ≡ hash_of file other) (lacks : may_have seen_hashes (hash_of file row) ≡ false) where
  fails : (other : Row) (b : Bool) → p other ≡ b → RowNoted file seen_hashes other → p other ≡ false
  fails other false is has = is
  fails other true is has = absurd (noted file seen_hashes row other (alike other is) lacks has)

  none_passes : (item : FileItem) (o : Option Row) → item.row ≡ o → OptionNoted file seen_hashes o → row_passes p item ≡ false
  none_passes item None is has = rw is refl
  none_passes item (Some other) is has = rw is (fails other _ refl has)

  no_row : (items : List FileItem) → AreNoted file seen_hashes items → holds_row p items ≡ false
  no_row items all =
      list_any_none (row_passes p) items
      (All-weaker (ItemNoted file seen_hashes) (λ item. row_passes p item ≡ false) (λ item h. none_passes item item.row refl h) items all)

pub no_key : (file : SourceFile) (seen_hashes : SeenNumbers) (row : Row) (items : List FileItem) → may_have seen_hashes (key_hash file (row_span row).lo (key_names file row)) ≡ false → AreNoted file seen_hashes items → holds_row (same_key file row) items ≡ false
no_key file seen_hashes row items lacks all = no_row file seen_hashes row (same_key file row) (same_hash file row) lacks items all

pub no_overlap : (file : SourceFile) (seen_hashes : SeenNumbers) (row : Row) (items : List FileItem) → may_have seen_hashes (key_hash file (row_span row).lo (key_names file row)) ≡ false → AreNoted file seen_hashes items → holds_row (overlaps file row) items ≡ false
no_overlap file seen_hashes row items lacks all = no_row file seen_hashes row (overlaps file row) (overlap_hash file row) lacks items all
