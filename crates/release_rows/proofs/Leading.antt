-- Patches lead back.
use Rattle.std.proofs.Common.{◌≡◌, ℕ, suc, ◌+◌, ◌-◌, ◌<◌, ◌≤◌, ◌==◌, Bool, true, List, [], ◌∷◌, ◌++◌, length, map, take, drop, get_or, refl, sym, ap, subst, ◌∙◌, arith, All}
use Rattle.std.proofs.lemmas.Bool.Decides.{nat_tests}
use Rattle.std.proofs.lemmas.List.{append-nil, append_assoc, drop-map, drop_all, drop_at, drop_more, get_or-map, length-append, length-map, length-set, length-take-le, map-append, set-get_or, set-set, take-append-drop, take-map, take_all, take_at, take_more, take_more_same}
use Rattle.std.proofs.lemmas.List.Concat.{flat_map-append}
use Rattle.std.proofs.lemmas.List.Elements.{All-drop, All-take}
use Rattle.ucd_points.specs.SourceFiles.{file_place}
use Rattle.part_list.specs.Parts.{PartLists, flat, now_in, part_at, spliced}
use Rattle.part_list.specs.declared.entry.Entry.{Entry}
use Rattle.release_rows.specs.Back.{LeadsOn, turned}
use Rattle.release_rows.specs.FileLemmas.{items_at-with_items_same}
use Rattle.release_rows.specs.Patches.{IsDefined, LeadsBack, SpliceItems, Stands, back, undone}
use Rattle.release_rows.specs.Releases.{items_at, with_items, FileItem, SourceFile}
use Rattle.release_rows.specs.declared.stored_item.StoredItem.{StoredItem}

abbrev Files : Type 0
Files = List (List FileItem)

abbrev Splices : Type 0
Splices = List SpliceItems

-- ---- one splice more

pub back_more : (patch : Splices) (s : SpliceItems) (files : Files) → back (patch ++ s ∷ []) files ≡ undone s (back patch files)
back_more [] s files = refl
back_more (p ∷ patch) s files = back_more patch s (undone p files)

defined_more : (patch : Splices) (s : SpliceItems) (files : Files) → IsDefined patch files → Stands s (items_at (back patch files) s.file) → IsDefined (patch ++ s ∷ []) files
defined_more [] s files h stands = (stands, tt)
defined_more (p ∷ patch) s files h stands = (h.0, defined_more patch s (undone p files) h.1 stands)

leads_more : (patch : Splices) (s : SpliceItems) (start files : Files) → LeadsBack patch start files → Stands s (items_at files s.file) → LeadsBack (patch ++ s ∷ []) start (undone s files)
leads_more patch s start files h stands = record {
  defined = defined_more patch s start h.defined (subst (λ (fs : Files). Stands s (items_at fs s.file)) (sym h.leads) stands);
  leads = back_more patch s start ∙ ap (undone s) h.leads;
}

-- what a splice finds between two lists, and what it leaves
stands_between : (s : SpliceItems) (front rest : List FileItem) → s.at ≡ length front → Stands s (front ++ (s.later ++ rest))
stands_between s front rest at = record {
  here = ap (take (length s.later)) (drop_at front (s.later ++ rest) s.at (sym at)) ∙ take_at s.later rest (length s.later) refl;
  within = omega (arith, at, length-append front (s.later ++ rest), length-append s.later rest);
}

spliced_between : (s : SpliceItems) (front rest : List FileItem) → s.at ≡ length front → spliced (front ++ (s.later ++ rest)) s.at (length s.later) s.earlier ≡ front ++ (s.earlier ++ rest)
spliced_between s front rest at =
    let all = front ++ (s.later ++ rest) in
    let first : take s.at all ≡ front = take_at front (s.later ++ rest) s.at (sym at) in
    let last : drop (s.at + length s.later) all ≡ rest = ap (drop (s.at + length s.later)) (sym (append_assoc front s.later rest)) ∙ drop_at (front ++ s.later) rest (s.at + length s.later) (omega (arith, at, length-append front s.later)) in
    ap (λ (l : List FileItem). (l ++ s.earlier) ++ drop (s.at + length s.later) all) first ∙ ap (λ (l : List FileItem). (front ++ s.earlier) ++ l) last ∙ append_assoc front s.earlier rest

-- ---- the items of one file

-- the same patch leads to the same files
pub leads_nowhere : (patch : Splices) (file : SourceFile) (next now : List FileItem) → next ≡ now → LeadsOn patch patch file next now
leads_nowhere patch file next now same start files h nine here =
    subst (LeadsBack patch start) (sym (ap (with_items files file) (sym same ∙ sym here) ∙ set-get_or files (file_place file) [])) h

pub leads_on : (first second third : Splices) (file : SourceFile) (a b c : List FileItem) → LeadsOn first second file a b → LeadsOn second third file b c → LeadsOn first third file a c
leads_on first second third file a b c one two start files h nine here =
    let next = with_items files file b in
    let step = two start next (one start files h nine here) (length-set files (file_place file) b ∙ nine) (items_at-with_items_same files file b nine) in
    subst (LeadsBack third start) (set-set files (file_place file) b c) step

pub leads_by : (patch new : Splices) (s : SpliceItems) (front rest : List FileItem) → s.at ≡ length front → new ≡ patch ++ s ∷ [] → LeadsOn patch new s.file (front ++ (s.later ++ rest)) (front ++ (s.earlier ++ rest))
leads_by patch new s front rest at is start files h nine here =
    let stands : Stands s (items_at files s.file) = subst (Stands s) (sym here) (stands_between s front rest at) in
    let items : spliced (items_at files s.file) s.at (length s.later) s.earlier ≡ front ++ (s.earlier ++ rest) = ap (λ (l : List FileItem). spliced l s.at (length s.later) s.earlier) here ∙ spliced_between s front rest at in
    let there = leads_more patch s start files h stands in
    subst (λ (p : Splices). LeadsBack p start (with_items files s.file (front ++ (s.earlier ++ rest)))) (sym is) (subst (λ (l : List FileItem). LeadsBack (patch ++ s ∷ []) start (with_items files s.file l)) items there)

-- ---- what differs in a part

-- both begin with the same items, and end with the same
pub record Trimmed (now next now_mid next_mid : List FileItem) (front : ℕ) : Type 0 where
  pub before : List FileItem
  pub behind : List FileItem
  pub long : front ≡ length before
  pub now_is : now ≡ before ++ (now_mid ++ behind)
  pub next_is : next ≡ before ++ (next_mid ++ behind)

pub trimmed : (st : Entry StoredItem → FileItem) (now next now_rest next_rest : List (Entry StoredItem)) (front n m : ℕ) → front ≤ length now → take front (map st now) ≡ take front (map st next) → now_rest ≡ drop front now → next_rest ≡ drop front next → drop n (map st now_rest) ≡ drop m (map st next_rest) → Trimmed (map st now) (map st next) (map st (take n now_rest)) (map st (take m next_rest)) front
trimmed st now next now_rest next_rest front n m le same now_is next_is ends =
    let cut : (k : ℕ) (xs rest : List (Entry StoredItem)) → rest ≡ drop front xs → map st xs ≡ take front (map st xs) ++ (map st (take k rest) ++ drop k (map st rest)) = λ k xs rest is.
    sym (ap (λ (l : List FileItem). take front (map st xs) ++ (l ++ drop k (map st rest))) (sym (take-map st k rest)) ∙ ap (λ (l : List FileItem). take front (map st xs) ++ l) (take-append-drop k (map st rest) ∙ ap (map st) is ∙ sym (drop-map st front xs)) ∙ take-append-drop front (map st xs)) in
    record {
      before = take front (map st now);
      behind = drop n (map st now_rest);
      long = sym (length-take-le front (map st now) (omega (arith, le, length-map now st)));
      now_is = cut n now now_rest now_is;
      next_is = cut m next next_rest next_is ∙ ap (λ (l : List FileItem). l ++ (map st (take m next_rest) ++ drop m (map st next_rest))) (sym same) ∙ ap (λ (l : List FileItem). take front (map st now) ++ (map st (take m next_rest) ++ l)) (sym ends);
    }

around : (before front mid end behind : List FileItem) → before ++ ((front ++ (mid ++ end)) ++ behind) ≡ (before ++ front) ++ (mid ++ (end ++ behind))
around before front mid end behind =
    ap (λ (l : List FileItem). before ++ l) (append_assoc front (mid ++ end) behind ∙ ap (λ (l : List FileItem). front ++ l) (append_assoc mid end behind))
    ∙ sym (append_assoc before front (mid ++ (end ++ behind)))

pub leads_trimmed : (patch new : Splices) (s : SpliceItems) (file : SourceFile) (now next later earlier before behind : List FileItem) (at front : ℕ) → Trimmed now next earlier later front → s ≡ record { file = file; at = at + front; later = later; earlier = earlier } → at ≡ length before → new ≡ patch ++ s ∷ [] → LeadsOn patch new file (before ++ (next ++ behind)) (before ++ (now ++ behind))
leads_trimmed patch new s file now next later earlier before behind at front t same here is =
    let own : SpliceItems = record { file = file; at = at + front; later = later; earlier = earlier } in
    let there = leads_by patch new own (before ++ t.before) (t.behind ++ behind) (omega (arith, here, t.long, length-append before t.before)) (is ∙ ap (λ (x : SpliceItems). patch ++ x ∷ []) same) in
    let next_is : before ++ (next ++ behind) ≡ (before ++ t.before) ++ (later ++ (t.behind ++ behind)) = ap (λ (l : List FileItem). before ++ (l ++ behind)) t.next_is ∙ around before t.before later t.behind behind in
    let now_is : before ++ (now ++ behind) ≡ (before ++ t.before) ++ (earlier ++ (t.behind ++ behind)) = ap (λ (l : List FileItem). before ++ (l ++ behind)) t.now_is ∙ around before t.before earlier t.behind behind in
    subst (λ (l : List FileItem). LeadsOn patch new file l (before ++ (now ++ behind))) (sym next_is) (subst (LeadsOn patch new file ((before ++ t.before) ++ (later ++ (t.behind ++ behind)))) (sym now_is) there)

pub none_mapped : (st : Entry StoredItem → FileItem) (xs : List (Entry StoredItem)) (b : Bool) → b ≡ (length xs == 0) → b ≡ true → map st xs ≡ []
none_mapped st [] b is e = refl
none_mapped st (x ∷ xs) b is e = absurd (let none : (suc (length xs) == 0) ≡ true = sym is ∙ e in grind (arith, nat_tests))

pub same_trimmed : (now next a b : List FileItem) (front : ℕ) → Trimmed now next a b front → a ≡ [] → b ≡ [] → next ≡ now
same_trimmed now next a b front t none none' =
    t.next_is ∙ ap (λ (l : List FileItem). t.before ++ (l ++ t.behind)) (none' ∙ sym none) ∙ sym t.now_is

-- ---- parts

pub turned_all : {A : Type 0} (items : PartLists A) (slot : ℕ) → length items.now ≤ slot → length items.next ≡ length items.now → turned items slot ≡ now_in items
turned_all items slot past both = rw (take_all slot items.now past, drop_all slot items.next (omega arith)) (append-nil (now_in items))

pub turned_at : {A : Type 0} (items : PartLists A) (slot : ℕ) → slot < length items.next → turned items slot ≡ flat (take slot items.now) ++ (part_at items.next slot ++ flat (drop (slot + 1) items.next))
turned_at {A} items slot lt = ap (λ (l : List (List A)). flat (take slot items.now) ++ flat l) (drop_more items.next slot [] lt)

front_more : {A : Type 0} (xs : List (List A)) (slot : ℕ) → slot < length xs → flat (take (slot + 1) xs) ≡ flat (take slot xs) ++ part_at xs slot
front_more xs slot lt = ap flat (take_more xs slot [] lt) ∙ flat_map-append (λ part. part) (take slot xs) (part_at xs slot ∷ []) ∙ ap (λ l. flat (take slot xs) ++ l) (append-nil (part_at xs slot))

pub turned_more : {A : Type 0} (items : PartLists A) (slot : ℕ) → slot < length items.now → turned items (slot + 1) ≡ flat (take slot items.now) ++ (part_at items.now slot ++ flat (drop (slot + 1) items.next))
turned_more {A} items slot lt = ap (λ (l : List A). l ++ flat (drop (slot + 1) items.next)) (front_more items.now slot lt) ∙ append_assoc (flat (take slot items.now)) (part_at items.now slot) (flat (drop (slot + 1) items.next))

-- how many entries stand before the next part
pub place_more : {A : Type 0} (xs : List (List A)) (slot at : ℕ) → slot < length xs → at ≡ length (flat (take slot xs)) → at + length (part_at xs slot) ≡ length (flat (take (slot + 1) xs))
place_more xs slot at lt is = omega (arith, is, ap length (front_more xs slot lt), length-append (flat (take slot xs)) (part_at xs slot))

pub place_within : {A : Type 0} (xs : List (List A)) (slot at : ℕ) → slot < length xs → at ≡ length (flat (take slot xs)) → at + length (part_at xs slot) ≤ length (flat xs)
place_within {A} xs slot at lt is =
    let cut : flat xs ≡ flat (take (slot + 1) xs) ++ flat (drop (slot + 1) xs) = ap flat (sym (take-append-drop (slot + 1) xs)) ∙ flat_map-append (λ part. part) (take (slot + 1) xs) (drop (slot + 1) xs) in
    omega (arith, place_more xs slot at lt is, ap length cut, length-append (flat (take (slot + 1) xs)) (flat (drop (slot + 1) xs)))

-- the items of three lists put together
pub map_three : {A B : Type 0} (f : A → B) (a b c : List A) → map f (a ++ (b ++ c)) ≡ map f a ++ (map f b ++ map f c)
map_three {A} {B} f a b c = map-append f a (b ++ c) ∙ ap (λ (l : List B). map f a ++ l) (map-append f b c)

-- ---- what both begin and end with

pub same_front_more : (st : Entry StoredItem → FileItem) (xs ys : List (Entry StoredItem)) (count : ℕ) (d e : Entry StoredItem) → count < length xs → count < length ys → st (get_or xs count d) ≡ st (get_or ys count e) → take count (map st xs) ≡ take count (map st ys) → take (count + 1) (map st xs) ≡ take (count + 1) (map st ys)
same_front_more st xs ys count d e lt lt' same so_far =
    let long = length-map xs st in
    let long' = length-map ys st in
    take_more_same (map st xs) (map st ys) count (st d) (omega arith) (omega arith) so_far
    (get_or-map st xs count d (st d) lt ∙ same ∙ sym (get_or-map st ys count e (st d) lt'))

last_more : (st : Entry StoredItem → FileItem) (xs : List (Entry StoredItem)) (count : ℕ) (d : Entry StoredItem) → count < length xs → drop (length xs - (count + 1)) (map st xs) ≡ st (get_or xs (length xs - 1 - count) d) ∷ drop (length xs - count) (map st xs)
last_more st xs count d lt =
    let n = length xs - 1 - count in
    let here : length xs - (count + 1) ≡ n = omega arith in
    let next : n + 1 ≡ length xs - count = omega arith in
    ap (λ k. drop k (map st xs)) here
    ∙ drop_more (map st xs) n (st d) (omega (arith, lt, length-map xs st))
    ∙ ap (λ (i : FileItem). i ∷ drop (n + 1) (map st xs)) (get_or-map st xs n d (st d) (omega (arith, lt)))
    ∙ ap (λ k. st (get_or xs n d) ∷ drop k (map st xs)) next

pub same_end_more : (st : Entry StoredItem → FileItem) (xs ys : List (Entry StoredItem)) (count : ℕ) (d e : Entry StoredItem) → count < length xs → count < length ys → st (get_or xs (length xs - 1 - count) d) ≡ st (get_or ys (length ys - 1 - count) e) → drop (length xs - count) (map st xs) ≡ drop (length ys - count) (map st ys) → drop (length xs - (count + 1)) (map st xs) ≡ drop (length ys - (count + 1)) (map st ys)
same_end_more st xs ys count d e lt lt' same so_far =
    last_more st xs count d lt ∙ ap (λ (i : FileItem). i ∷ drop (length xs - count) (map st xs)) same ∙ ap (λ (l : List FileItem). st (get_or ys (length ys - 1 - count) e) ∷ l) so_far ∙ sym (last_more st ys count e lt')

-- the entries of a part
pub all_in_part : {A : Type 0} (P : A → Type 0) (xs : List (List A)) (slot : ℕ) → slot < length xs → All P (flat xs) → All P (part_at xs slot)
all_in_part {A} P xs slot lt all =
    let cut : flat xs ≡ flat (take slot xs) ++ (part_at xs slot ++ flat (drop (slot + 1) xs)) =
    ap flat (sym (take-append-drop slot xs)) ∙ flat_map-append (λ part. part) (take slot xs) (drop slot xs) ∙ ap (λ (l : List (List A)). flat (take slot xs) ++ flat l) (drop_more xs slot [] lt) in
    let front = flat (take slot xs) in
    let part = part_at xs slot in
    let rest = flat (drop (slot + 1) xs) in
    let here : take (length part) (drop (length front) (flat xs)) ≡ part = ap (λ (l : List A). take (length part) (drop (length front) l)) cut ∙ ap (take (length part)) (drop_at front (part ++ rest) (length front) refl) ∙ take_at part rest (length part) refl in
    subst (All P) here (All-take P (length part) (drop (length front) (flat xs)) (All-drop P (length front) (flat xs) all))

-- a part that was edited, and one that was not
module _ (st : Entry StoredItem → FileItem) (patch new : Splices) (file : SourceFile) (items : PartLists (Entry StoredItem)) (slot : ℕ) (now next : List (Entry StoredItem)) (lt : slot < length items.now) (both : length items.next ≡ length items.now) (now_is : now ≡ part_at items.now slot) (next_is : next ≡ part_at items.next slot) where
  abbrev pub front : List (Entry StoredItem)
  front = flat (take slot items.now)

  abbrev pub rest : List (Entry StoredItem)
  rest = flat (drop (slot + 1) items.next)

  before_part : map st (turned items slot) ≡ map st front ++ (map st next ++ map st rest)
  before_part = ap (map st) (turned_at items slot (omega (arith, lt, both)) ∙ ap (λ (l : List (Entry StoredItem)). front ++ (l ++ rest)) (sym next_is)) ∙ map_three st front next rest

  behind_part : map st (turned items (slot + 1)) ≡ map st front ++ (map st now ++ map st rest)
  behind_part = ap (map st) (turned_more items slot lt ∙ ap (λ (l : List (Entry StoredItem)). front ++ (l ++ rest)) (sym now_is)) ∙ map_three st front now rest

  pub leads_part : LeadsOn patch new file (map st front ++ (map st next ++ map st rest)) (map st front ++ (map st now ++ map st rest)) → LeadsOn patch new file (map st (turned items slot)) (map st (turned items (slot + 1)))
  leads_part h = subst (λ (l : List FileItem). LeadsOn patch new file l (map st (turned items (slot + 1)))) (sym before_part) (subst (LeadsOn patch new file (map st front ++ (map st next ++ map st rest))) (sym behind_part) h)
