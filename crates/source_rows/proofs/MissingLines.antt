-- What stands behind the mark of a missing line.
use Rattle.std.proofs.Common.{◌≡◌, ℕ, Bool, true, false, cond, eqb, List, [], ◌∷◌, ◌++◌, length, drop, Option, Some, None, is_some, unwrap_or, refl, codes}
use Rattle.std.specs.List.{list_any, starts_with, prefix_len, before_first}
use Rattle.std.proofs.lemmas.Bool.{or_parts}
use Rattle.ucd_points.specs.Lines.{is_blank, unindented}
use Rattle.ucd_points.specs.Fields.{is_hash}
use Rattle.ucd_points.specs.MissingLines.{takes_missing, mark, behind_mark, behind_hash, missing_rest, is_missing}
use Rattle.ucd_points.specs.declared.files.SourceFile.{SourceFile}
use Rattle.source_rows.specs.Fields.{fields_of, row_fields}
use Rattle.source_rows.proofs.Lacks.{Lacks}
use Rattle.source_rows.proofs.FieldValues.{lacks_drop}

-- ---- a line without `#` is none

no_hash_begins : (bs : List ℕ) → Lacks is_hash bs → behind_hash bs ≡ None
no_hash_begins [] h = refl
no_hash_begins (b ∷ bs) h = rw (or_parts (is_hash b) (list_any is_hash bs) h).0 refl

none_of : (takes : Bool) (bs : List ℕ) → Lacks is_hash bs → cond takes (behind_hash (unindented bs)) None ≡ None
none_of true bs h = no_hash_begins (unindented bs) (lacks_drop is_hash (prefix_len is_blank bs) bs h)
none_of false bs h = refl

pub no_rest : (file : SourceFile) (bs : List ℕ) → Lacks is_hash bs → missing_rest file bs ≡ None
unfolding missing_rest
no_rest file bs h = none_of (takes_missing file) bs h

-- a line that is none
no_some : (o : Option (List ℕ)) → is_some o ≡ false → o ≡ None
no_some None h = refl
no_some (Some rest) h = absurd cc

pub rest_is_none : (file : SourceFile) (bs : List ℕ) → is_missing file bs ≡ false → missing_rest file bs ≡ None
rest_is_none file bs h = no_some (missing_rest file bs) h

pub fields_of_others : (file : SourceFile) (bs : List ℕ) → missing_rest file bs ≡ None → row_fields file bs ≡ fields_of (before_first is_hash bs)
fields_of_others file bs h = rw h refl

-- ---- the mark as it is written

pub written : (file : SourceFile) (text : List ℕ) → takes_missing file ≡ true → missing_rest file (codes "# @missing: " ++ text) ≡ Some (32 ∷ text)
unfolding missing_rest
written file text h = rw h refl

-- ---- what stands behind the mark is part of the line

behind_mark_lacks : (p : ℕ → Bool) (all bs : List ℕ) (begins : Bool) → Lacks p all → Lacks p bs → Lacks p (unwrap_or (cond begins (Some (drop (length mark) bs)) None) all)
behind_mark_lacks p all bs true h k = lacks_drop p (length mark) bs k
behind_mark_lacks p all bs false h k = h

behind_hash_lacks : (p : ℕ → Bool) (all bs : List ℕ) → Lacks p all → Lacks p bs → Lacks p (unwrap_or (behind_hash bs) all)
behind_hash_lacks p all [] h k = h
behind_hash_lacks p all (b ∷ bs) h k = by (eqb b 35) (or_parts (p b) (list_any p bs) k).1
  where
    by : (hash : Bool) → Lacks p bs → Lacks p (unwrap_or (cond hash (behind_mark (unindented bs)) None) all)
    by true l = behind_mark_lacks p all (unindented bs) (starts_with eqb (unindented bs) mark) h (lacks_drop p (prefix_len is_blank bs) bs l)
    by false l = h

rest_by : (p : ℕ → Bool) (bs : List ℕ) (takes : Bool) → Lacks p bs → Lacks p (unwrap_or (cond takes (behind_hash (unindented bs)) None) bs)
rest_by p bs true h = behind_hash_lacks p bs (unindented bs) h (lacks_drop p (prefix_len is_blank bs) bs h)
rest_by p bs false h = h

pub rest_lacks : (p : ℕ → Bool) (file : SourceFile) (bs : List ℕ) → Lacks p bs → Lacks p (unwrap_or (missing_rest file bs) bs)
unfolding missing_rest
rest_lacks p file bs h = rest_by p bs (takes_missing file) h
