-- What an operation leaves as it was.
use Rattle.std.proofs.Common.{◌≡◌, ℕ, suc, Bool, true, false, not, List, [], ◌∷◌, ◌++◌, length, map, filter, take, drop, Result, Ok, Err, inl, inr, refl, sym, ap, subst, ◌∙◌, one-add}
use Rattle.std.proofs.Math.Seq.{drop-append_seam, take-append_seam}
use Rattle.std.specs.List.{All, list_any, position_or_len}
use Rattle.std.proofs.lemmas.Bool.{and_from, cases_lt, eq-eqb, or_parts}
use Rattle.std.proofs.lemmas.List.{get_or-set_same, get_or_past, map-append, set_past, take-append-drop}
use Rattle.std.proofs.lemmas.List.Elements.{All-filter, All-head, All-tail, All-take, filter-append}
use Rattle.std.proofs.lemmas.List.Folds.{list_any-append}
use Rattle.ucd_points.specs.Lines.{LineEnding, cr_lf, lf, unended}
use Rattle.ucd_points.specs.SourceFiles.{file_place}
use Rattle.source_rows.specs.Keys.{key_names}
use Rattle.release_rows.specs.FileLemmas.{items_at-with_items_other}
use Rattle.release_rows.specs.Keys.{overlaps, same_key}
use Rattle.release_rows.specs.Operations.{added_item, changed_item, edited, ended, has_key, holds_row, op_file, overlaps_another, place_in, put_in, row_passes, with_edited, with_end}
use Rattle.release_rows.specs.Releases.{items_at, with_items, FileItem, SourceFile, Row}
use Rattle.release_rows.specs.Unchanged.{EverythingElseStays, HasEnd, KeepsFiles, KeepsOthers, KeepsPlace, ended_at, has_row, in_front, others, standing}
use Rattle.release_rows.specs.declared.key_rule.KeyRule.{KeyRule}
use Rattle.release_rows.specs.declared.key_rule.KeyRule.TheVariants.{K1, K2, K4}
use Rattle.release_rows.specs.declared.operation.Op.{Op}
use Rattle.release_rows.specs.declared.operation.Op.TheVariants.{Add, Change, Withdraw}
use Rattle.release_rows.proofs.Operations.{any_rows, failed, items_are, passed, rows-ended}
use Rattle.release_rows.proofs.Texts.{texts_itself}

-- ---- an item with a line end

contents_ended : (items : List FileItem) → map (λ (i : FileItem). i.content) (ended items) ≡ map (λ (i : FileItem). i.content) items
contents_ended [] = refl
contents_ended (item ∷ []) = refl
contents_ended (item ∷ next ∷ items) = ap (λ (cs : List (List ℕ)). item.content ∷ cs) (contents_ended (next ∷ items))

pub length-ended : (items : List FileItem) → length (ended items) ≡ length items
length-ended [] = refl
length-ended (item ∷ []) = refl
length-ended (item ∷ next ∷ items) = ap suc (length-ended (next ∷ items))

end_stays : (item : FileItem) (e : LineEnding) → item.ending ≡ e → HasEnd item → with_end item ≡ item
end_stays item unended is has = absurd (has is)
end_stays item lf is has = rw is refl
end_stays item cr_lf is has = rw is refl

same_ended : (items : List FileItem) → All HasEnd items → ended items ≡ items
same_ended [] all = refl
same_ended (item ∷ []) all = ap (λ (i : FileItem). i ∷ []) (end_stays item item.ending refl (All-head HasEnd item [] all))
same_ended (item ∷ next ∷ items) all = ap (λ (is : List FileItem). item ∷ is) (same_ended (next ∷ items) (All-tail HasEnd item (next ∷ items) all))

contents_ended_at : (n : ℕ) (items : List FileItem) → map (λ (i : FileItem). i.content) (ended_at n items) ≡ map (λ (i : FileItem). i.content) items
contents_ended_at n items =
    map-append (λ (i : FileItem). i.content) (ended (take n items)) (drop n items)
    ∙ ap (λ (cs : List (List ℕ)). cs ++ map (λ (i : FileItem). i.content) (drop n items)) (contents_ended (take n items))
    ∙ sym (map-append (λ (i : FileItem). i.content) (take n items) (drop n items))
    ∙ ap (map (λ (i : FileItem). i.content)) (take-append-drop n items)

same_ended_at : (n : ℕ) (items : List FileItem) → All HasEnd items → ended_at n items ≡ items
same_ended_at n items all = ap (λ (is : List FileItem). is ++ drop n items) (same_ended (take n items) (All-take HasEnd n items all)) ∙ take-append-drop n items

-- once the others are told exactly, the rest is so too
told : (op : Op) (items next : List FileItem) → others op next ≡ ended_at (in_front op next) (others op items) → KeepsPlace op items next → KeepsOthers op items next
told op items next exactly place = record {
  exactly = exactly;
  same = λ all. exactly ∙ same_ended_at (in_front op next) (others op items) (All-filter (λ item. not (row_passes (has_row op) item)) HasEnd items all);
  contents = ap (map (λ (i : FileItem). i.content)) exactly ∙ contents_ended_at (in_front op next) (others op items);
  place = place;
}

-- ---- one item more

abbrev pub but_for : {A : Type 0} → (A → Bool) → List A → List A
but_for p xs = filter (λ x. not (p x)) xs

none_less : {A : Type 0} (p : A → Bool) (xs : List A) → list_any p xs ≡ false → but_for p xs ≡ xs
none_less p [] h = refl
none_less p (x ∷ xs) h = let k = or_parts (p x) (list_any p xs) h in rw k.0 (ap (λ ys. x ∷ ys) (none_less p xs k.1))

first_is : {A : Type 0} (p : A → Bool) (xs : List A) (x : A) (ys : List A) → list_any p xs ≡ false → p x ≡ true → position_or_len p (xs ++ x ∷ ys) ≡ length xs
first_is p [] x ys h one = rw one refl
first_is p (y ∷ xs) x ys h one = let k = or_parts (p y) (list_any p xs) h in rw (k.0, one-add) (ap suc (first_is p xs x ys k.1 one))

without_one : {A : Type 0} (p : A → Bool) (xs : List A) (x : A) (ys : List A) → list_any p xs ≡ false → p x ≡ true → list_any p ys ≡ false → but_for p (xs ++ x ∷ ys) ≡ xs ++ ys
without_one p xs x ys h one k = filter-append (λ y. not (p y)) xs (x ∷ ys) ∙ rw (one, none_less p xs h, none_less p ys k) refl

none_ended : (p : Row → Bool) (items : List FileItem) → holds_row p items ≡ false → holds_row p (ended items) ≡ false
none_ended p items h = sym (any_rows p (ended items)) ∙ ap (list_any p) (rows-ended items) ∙ any_rows p items ∙ h

put_between : (p : Row → Bool) (xs ys : List FileItem) (item : FileItem) → holds_row p (xs ++ ys) ≡ false → row_passes p item ≡ true → but_for (row_passes p) (ended xs ++ item ∷ ys) ≡ ended_at (position_or_len (row_passes p) (ended xs ++ item ∷ ys)) (xs ++ ys)
put_between p xs ys item none one =
    let k = or_parts (holds_row p xs) (holds_row p ys) (sym (list_any-append (row_passes p) xs ys) ∙ none) in
    let front = none_ended p xs k.0 in
    let at = first_is (row_passes p) (ended xs) item ys front one ∙ length-ended xs in
    without_one (row_passes p) (ended xs) item ys front one k.1 ∙ rw (at, take-append_seam xs ys, drop-append_seam xs ys) refl

put : (p : Row → Bool) (items : List FileItem) (n : ℕ) (item : FileItem) → holds_row p items ≡ false → row_passes p item ≡ true → but_for (row_passes p) (put_in items n item) ≡ ended_at (position_or_len (row_passes p) (put_in items n item)) items
put p items n item none one =
    let whole = take-append-drop n items in
    subst (λ (is : List FileItem). but_for (row_passes p) (put_in items n item) ≡ ended_at (position_or_len (row_passes p) (put_in items n item)) is) whole (put_between p (take n items) (drop n items) item (ap (holds_row p) whole ∙ none) one)

own_key : (file : SourceFile) (row : Row) → same_key file row row ≡ true
own_key file row = and_from _ _ (texts_itself (key_names file row)) (eq-eqb _ _ refl)

-- ---- an item in the place of another

changed_stands : (file : SourceFile) (row : Row) (bytes : List ℕ) (item : FileItem) (b : Bool) → row_passes (same_key file row) item ≡ b → standing (Change file row bytes) (changed_item file row bytes item) ≡ standing (Change file row bytes) item
changed_stands file row bytes item true h = rw (h, own_key file row) refl
changed_stands file row bytes item false h = rw (h, h) refl

stand : (file : SourceFile) (row : Row) (bytes : List ℕ) (items : List FileItem) → map (standing (Change file row bytes)) (map (changed_item file row bytes) items) ≡ map (standing (Change file row bytes)) items
stand file row bytes [] = refl
stand file row bytes (item ∷ items) = rw (changed_stands file row bytes item (row_passes (same_key file row) item) refl, stand file row bytes items) refl

instead : (file : SourceFile) (row : Row) (bytes : List ℕ) (items : List FileItem) → others (Change file row bytes) (map (changed_item file row bytes) items) ≡ others (Change file row bytes) items
instead file row bytes [] = refl
instead file row bytes (item ∷ items) = by (row_passes (same_key file row) item) refl (instead file row bytes items)
  where
    by : (b : Bool) → row_passes (same_key file row) item ≡ b → others (Change file row bytes) (map (changed_item file row bytes) items) ≡ others (Change file row bytes) items → others (Change file row bytes) (changed_item file row bytes item ∷ map (changed_item file row bytes) items) ≡ others (Change file row bytes) (item ∷ items)
    by true h e = rw (h, own_key file row) e
    by false h e = rw (h, h) (ap (λ (is : List FileItem). item ∷ is) e)

-- ---- fewer items

twice : {A : Type 0} (p : A → Bool) (xs : List A) → but_for p (but_for p xs) ≡ but_for p xs
twice p [] = refl
twice p (x ∷ xs) = by (p x) refl (twice p xs)
  where
    by : (b : Bool) → p x ≡ b → but_for p (but_for p xs) ≡ but_for p xs → but_for p (but_for p (x ∷ xs)) ≡ but_for p (x ∷ xs)
    by true h e = rw h e
    by false h e = rw (h, h) (ap (λ ys. x ∷ ys) e)

-- ---- the operation

pub keeps_others : (op : Op) (items next : List FileItem) → edited items op ≡ Ok next → KeepsOthers op items next
unfolding edited
keeps_others (Add file row bytes) items next h =
    let a = failed (holds_row (same_key file row) items) _ K1 next h in
    let b = failed (holds_row (overlaps file row) items) _ K4 next a.1 in
    let op = Add file row bytes in
    let all = none_less (row_passes (same_key file row)) items a.0 in
    let own : row_passes (same_key file row) (added_item row bytes) ≡ true = own_key file row in
    let exactly = put (same_key file row) items (place_in file row items) (added_item row bytes) a.0 own in
    subst (KeepsOthers op items) (items_are _ next b.1) (told op items (put_in items (place_in file row items) (added_item row bytes)) (exactly ∙ ap (ended_at _) (sym all)) all)
keeps_others (Change file row bytes) items next h =
    let a = passed (holds_row (same_key file row) items) _ K2 next h in
    let b = failed (holds_row (overlaps_another file row) items) _ K4 next a.1 in
    let op = Change file row bytes in
    subst (KeepsOthers op items) (items_are _ next b.1) (told op items (map (changed_item file row bytes) items) (instead file row bytes items) (stand file row bytes items))
keeps_others (Withdraw file key) items next h =
    let a = passed (holds_row (has_key file key) items) _ K2 next h in
    let op = Withdraw file key in
    let out = twice (row_passes (has_key file key)) items in
    subst (KeepsOthers op items) (items_are _ next a.1) (told op items (others op items) out out)

-- ---- the files

keeps_none : (op : Op) → KeepsOthers op [] []
keeps_none (Add file row bytes) = told (Add file row bytes) [] [] refl refl
keeps_none (Change file row bytes) = told (Change file row bytes) [] [] refl refl
keeps_none (Withdraw file key) = told (Withdraw file key) [] [] refl refl

-- a file past the last place has no items, before and after
keeps_here : (op : Op) (files : List (List FileItem)) (items : List FileItem) → edited (items_at files (op_file op)) op ≡ Ok items → KeepsOthers op (items_at files (op_file op)) (items_at (with_items files (op_file op) items) (op_file op))
keeps_here op files items done = elim (cases_lt (file_place (op_file op)) (length files)) [
  | inl lt ↦ subst (KeepsOthers op (items_at files (op_file op))) (sym (get_or-set_same files (file_place (op_file op)) items [] lt)) (keeps_others op (items_at files (op_file op)) items done)
  | inr le ↦ rw (set_past files (file_place (op_file op)) items le, get_or_past files (file_place (op_file op)) [] le) (keeps_none op)
]

files_are : (xs ys : List (List FileItem)) → (let r : Result (List (List FileItem)) KeyRule = Ok xs in r) ≡ Ok ys → xs ≡ ys
files_are xs ys h = cc

by_answer : (op : Op) (files next : List (List FileItem)) (answer : Result (List FileItem) KeyRule) → edited (items_at files (op_file op)) op ≡ answer → with_edited files (op_file op) answer ≡ Ok next → KeepsFiles op files next
by_answer op files next (Ok items) done h = subst (KeepsFiles op files) (files_are _ next h) (record { here = keeps_here op files items done; elsewhere = λ file apart. items_at-with_items_other files (op_file op) file items apart })
by_answer op files next (Err rule) done h = absurd cc

pub everything_else_stays : EverythingElseStays
everything_else_stays op files next h = by_answer op files next (edited (items_at files (op_file op)) op) refl h
