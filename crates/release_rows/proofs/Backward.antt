-- Items that are taken out and put in one by one, and copied.
use Rattle.std.proofs.Common.{◌≡◌, ℕ, suc, ◌+◌, ◌-◌, ◌<◌, ◌≤◌, ◌^◌, List, [], ◌∷◌, ◌++◌, length, map, take, drop, get_or, sym, ap, subst, ◌∙◌, arith, All, insert, remove}
use Rattle.std.proofs.Math.Seq.{drop-append-add}
use Rattle.std.proofs.lemmas.List.{append_assoc, drop-drop, drop_at, drop_more, length-take-le, map-append, take_at, take_more}
use Rattle.std.proofs.lemmas.List.Edits.{length-insert, length-remove}
use Rattle.std.proofs.lemmas.List.Elements.{All-append, All-cons, All-drop, All-push, All-take}
use Rattle.ucd_points.specs.declared.files.SourceFile.{SourceFile}
use Rattle.part_list.specs.Parts.{PartLists, now_in, next_in}
use Rattle.part_list.specs.declared.entry.Entry.{Entry}
use Rattle.release_rows.specs.Back.{AreCopies, Grew}
use Rattle.release_rows.specs.StoredItems.{IsKeptFile, IsStored, stored_at}
use Rattle.release_rows.specs.declared.stored_item.StoredItem.{StoredItem}
use Rattle.release_rows.proofs.Arena.{all_still_stored, items_kept}
use Rattle.release_rows.proofs.Edited.{kept_edited}

-- ---- one by one

-- one more is taken out, of those from a place on
pub taken_out : {A : Type 0} (xs ys whole : List A) (at left : ℕ) → at + left ≤ length xs → 0 < left → take at xs ++ drop (at + left) xs ≡ whole → ys ≡ remove xs at → (at + (left - 1) ≤ length ys) × (take at ys ++ drop (at + (left - 1)) ys ≡ whole)
taken_out {A} xs ys whole at left within some so_far is =
    let front = take at xs in
    let rest = drop (suc at) xs in
    let long : length front ≡ at = length-take-le at xs (omega arith) in
    let fewer = length-remove xs at (omega arith) in
    let size = ap length is in
    let first : take at (front ++ rest) ≡ front = take_at front rest at long in
    let behind : suc at + (left - 1) ≡ at + left = omega arith in
    let last : drop (at + (left - 1)) (front ++ rest) ≡ drop (at + left) xs =
    ap (λ m. drop (m + (left - 1)) (front ++ rest)) (sym long) ∙ drop-append-add front rest (left - 1) ∙ drop-drop (left - 1) (suc at) xs ∙ ap (λ m. drop m xs) behind in
    (omega arith, rw is (ap (λ (l : List A). l ++ drop (at + (left - 1)) (front ++ rest)) first ∙ ap (λ (l : List A). front ++ l) last ∙ so_far))

-- one more is put in, in front of those that were
put_in_front : {A : Type 0} (front mid rest : List A) (at : ℕ) (e : A) → length front ≡ at → insert (front ++ mid ++ rest) at e ≡ front ++ (e ∷ mid) ++ rest
put_in_front {A} front mid rest at e long =
    let first : take at (front ++ mid ++ rest) ≡ front = ap (take at) (append_assoc front mid rest) ∙ take_at front (mid ++ rest) at long in
    let last : drop at (front ++ mid ++ rest) ≡ mid ++ rest = ap (drop at) (append_assoc front mid rest) ∙ drop_at front (mid ++ rest) at long in
    ap (λ (l : List A). l ++ e ∷ drop at (front ++ mid ++ rest)) first ∙ ap (λ (l : List A). front ++ e ∷ l) last ∙ sym (append_assoc front (e ∷ mid) rest)

pub put_front : {A B : Type 0} (f : B → A) (old xs ys : List A) (entries : List B) (d : B) (at left : ℕ) → at ≤ length old → 0 < left → left ≤ length entries → xs ≡ take at old ++ map f (drop left entries) ++ drop at old → ys ≡ insert xs at (f (get_or entries (left - 1) d)) → ys ≡ take at old ++ map f (drop (left - 1) entries) ++ drop at old
put_front {A} {B} f old xs ys entries d at left within some le so_far put =
    let e = get_or entries (left - 1) d in
    let long : length (take at old) ≡ at = length-take-le at old within in
    let next : left - 1 + 1 ≡ left = omega arith in
    let more : drop (left - 1) entries ≡ e ∷ drop left entries = drop_more entries (left - 1) d (omega arith) ∙ ap (λ m. e ∷ drop m entries) next in
    put ∙ ap (λ (l : List A). insert l at (f e)) so_far ∙ put_in_front (take at old) (map f (drop left entries)) (drop at old) at (f e) long ∙ ap (λ (l : List B). take at old ++ map f l ++ drop at old) (sym more)

pub longer : {A : Type 0} (xs ys : List A) (at : ℕ) (e : A) → at ≤ length xs → ys ≡ insert xs at e → at ≤ length ys
longer xs ys at e within is =
    let size = ap length is in
    let more = length-insert xs at e within in
    omega arith

-- an entry next is put in, and the text grew
pub kept_inserted : (file : SourceFile) (text new : List ℕ) (added later at : ℕ) (entry : Entry StoredItem) (old next : PartLists (Entry StoredItem)) → Grew text new → IsKeptFile file text added old → now_in next ≡ now_in old → next_in next ≡ insert (next_in old) at entry → at ≤ length (next_in old) → IsStored file new entry → later ≡ added + 1 → later < 2 ^ 32 → IsKeptFile file new later next
kept_inserted file text new added later at entry old next grew kept now is within one rises below =
    let more = grew.0 in
    let P = IsStored file (text ++ more) in
    let xs = next_in old in
    let few = kept.few_next in
    let long = length-insert xs at entry within in
    let size = ap length is in
    let all = all_still_stored file text more xs kept.next in
    let there : P entry = subst (λ (t : List ℕ). IsStored file t entry) grew.1 one in
    let put = All-append P (take at xs) (entry ∷ drop at xs) (All-take P at xs all) (All-cons P entry (drop at xs) there (All-drop P at xs all)) in
    subst (λ (t : List ℕ). IsKeptFile file t later next) (sym grew.1) (kept_edited file text more added later old next kept now (subst (All P) (sym is) put) (omega arith) (omega arith) below)

-- ---- copies

pub grew_more : (first second third : List ℕ) → Grew first second → Grew second third → Grew first third
grew_more first second third one two = (one.0 ++ two.0, two.1 ∙ ap (λ (l : List ℕ). l ++ two.0) one.1 ∙ append_assoc first one.0 two.0)

pub copies_kept : (file : SourceFile) (from text new : List ℕ) (entries copies : List (Entry StoredItem)) → Grew text new → AreCopies file from entries text copies → AreCopies file from entries new copies
copies_kept file from text new entries copies grew are = subst (λ (t : List ℕ). AreCopies file from entries t copies) (sym grew.1) (record {
  stored = all_still_stored file text grew.0 copies are.stored;
  items = items_kept file text grew.0 copies are.stored ∙ are.items;
})

pub copied_more : (file : SourceFile) (from text new : List ℕ) (entries copies after : List (Entry StoredItem)) (d copy : Entry StoredItem) (done : ℕ) → Grew text new → AreCopies file from (take done entries) text copies → done < length entries → IsStored file new copy → stored_at file new copy ≡ stored_at file from (get_or entries done d) → after ≡ copies ++ copy ∷ [] → AreCopies file from (take (done + 1) entries) new after
copied_more file from text new entries copies after d copy done grew are lt stored same put =
    let kept = copies_kept file from text new (take done entries) copies grew are in
    let st = stored_at file from in
    let entry = get_or entries done d in
    let more = take_more entries done d lt in
    record {
      stored = subst (All (IsStored file new)) (sym put) (All-push (IsStored file new) copies copy kept.stored stored);
      items = ap (map (stored_at file new)) put ∙ map-append (stored_at file new) copies (copy ∷ []) ∙ rw (kept.items, same) (sym (ap (map st) more ∙ map-append st (take done entries) (entry ∷ [])));
    }
