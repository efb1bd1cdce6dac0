-- Leads tell that no row among the first ones follows another, and stay true where a row is put in.
use Rattle.std.proofs.Common.{◌≡◌, ℕ, zero, suc, ◌+◌, ◌-◌, ◌<◌, ◌≤◌, ◌⊎◌, inl, inr, Bool, true, false, ◌&&◌, List, [], ◌∷◌, ◌++◌, length, map, take, drop, get_or, set, if◌then◌else◌, Option, Some, None, Ok, refl, sym, ap, subst, ◌∙◌, arith, IfSome, bytes_eq, Ordering, Less, Equal, Greater}
use Rattle.std.specs.Cmp.{IsTotalOrder}
use Rattle.std.specs.Global.{Vec}
use Rattle.std.specs.List.{All, insert, position_or_len}
use Rattle.std.specs.Ordering.{ordering_reverse, ordering_then, nat_cmp, is_gt, is_lt}
use Rattle.std.proofs.Math.Nat.{eq-or-lt_of_le}
use Rattle.std.proofs.Math.Seq.{take-append-add}
use Rattle.std.proofs.lemmas.Bool.{and_parts, or_parts}
use Rattle.std.proofs.lemmas.Cmp.{lists_total, nat_cmp_total, nat_list_cmp_total, on_total, then_total}
use Rattle.std.proofs.lemmas.List.{drop-take, get_or-set_other, get_or-take, length-append, length-take-le, take-append-le, take-take}
use Rattle.std.proofs.lemmas.Grind.{get_or-set_at}
use Rattle.std.proofs.lemmas.List.Elements.{All-append, All-cons, All-drop, All-head, All-tail, All-take, All-weaker}
use Rattle.std.proofs.lemmas.List.Sums.{fails_before_first}
use Rattle.std.proofs.lemmas.Slice.Eq.{bytes_eq-Decides}
use Rattle.release_rows.proofs.Unchanged.{length-ended}
use Rattle.ucd_points.specs.PlainProofs.{lt_is}
use Rattle.source_rows.specs.Faults.{row_or_fault}
use Rattle.source_rows.specs.KeyNames.{ContentsHaveKeys, content_group, content_names, group_of, names_cmp}
use Rattle.source_rows.specs.Keys.{code_number, is_before, key_cmp, key_of, row_span}
use Rattle.source_rows.specs.declared.key.Key.{Key}
use Rattle.part_list.specs.Parts.{PartLists, flat, next_in}
use Rattle.part_list.specs.SpotLaws.{place-lt}
use Rattle.part_list.specs.declared.entry.Entry.{Entry}
use Rattle.release_rows.specs.FileItems.{FileItem, SourceFile, Row}
use Rattle.release_rows.specs.Gaps.{IsGapAt}
use Rattle.release_rows.specs.Keys.{is_missing_in}
use Rattle.release_rows.specs.Leads.{AreLeads, GivesRow, IsLead, KeepLeads, NoneFollows}
use Rattle.release_rows.specs.Operations.{ended, follows, holds_row, place_in, put_in, row_passes, same_group, with_end}
use Rattle.release_rows.specs.Searches.{IsSoughtRow, Sought, comes_behind}
use Rattle.release_rows.specs.StoredItems.{IsKeptFile, IsStored, content_at, stored_at}
use Rattle.release_rows.specs.declared.edits.Gap.{Gap}
use Rattle.release_rows.specs.declared.edits.Gap.TheVariants.{Front, Behind, Only}
use Rattle.release_rows.specs.declared.lead.Lead.{Lead}
use Rattle.release_rows.specs.declared.lead.Leads.{Leads}
use Rattle.release_rows.specs.declared.stored_item.StoredItem.{StoredItem}
use Rattle.release_rows.proofs.Arena.{content_kept, items_kept}
use Rattle.release_rows.proofs.Edited.{sought_own}
use Rattle.release_rows.proofs.Seeking.{behind_found, code_is}

-- ---- keys in order

key_total : IsTotalOrder key_cmp
key_total = then_total (on_total (λ (k : Key). code_number k.code) nat_cmp_total) (on_total (λ (k : Key). k.names) (lists_total nat_list_cmp_total))

below_by : (f r x : Key) (o : Ordering) → key_cmp r f ≡ o → is_lt o ≡ false → key_cmp r x ≡ Less → key_cmp f x ≡ Less
below_by f r x Less is order less = absurd cc
below_by f r x Equal is order less = sym (key_total.congr r f x is) ∙ less
below_by f r x Greater is order less = key_total.trans f r x (key_total.antisymm f r ∙ ap ordering_reverse is) less

groups_same : (file : SourceFile) (a b : Row) → bytes_eq (group_of file a) (group_of file b) ≡ true → group_of file a ≡ group_of file b
groups_same file a b h = (bytes_eq-Decides (group_of file a) (group_of file b)).0 h

-- what does not follow a row does not follow one of its group that is not before it
above_by : (file : SourceFile) (f r x : Row) (b : Bool) → follows file r x ≡ b → bytes_eq (group_of file r) (group_of file f) ≡ true → is_lt (key_cmp (key_of file r) (key_of file f)) ≡ false → follows file f x ≡ false → follows file r x ≡ false
above_by file f r x false is group order none = is
above_by file f r x true is group order none =
    let both = and_parts (same_group file r x) (is_before (key_of file r) (key_of file x)) is in
    let less = below_by (key_of file f) (key_of file r) (key_of file x) (key_cmp (key_of file r) (key_of file f)) refl order (lt_is _ both.1) in
    let same : same_group file f x ≡ true = (bytes_eq-Decides (group_of file f) (group_of file x)).1 (sym (groups_same file r f group) ∙ groups_same file r x both.0) in
    let k = (rw (same, less) at none) in
    absurd cc

-- a row that is of another group, or is not behind, does not follow
apart_by : (file : SourceFile) (f r : Row) (b : Bool) → follows file f r ≡ b → (bytes_eq (group_of file r) (group_of file f) && is_gt (key_cmp (key_of file r) (key_of file f))) ≡ false → follows file f r ≡ false
apart_by file f r false is apart = is
apart_by file f r true is apart =
    let both = and_parts (same_group file f r) (is_before (key_of file f) (key_of file r)) is in
    let greater : key_cmp (key_of file r) (key_of file f) ≡ Greater = key_total.antisymm (key_of file r) (key_of file f) ∙ ap ordering_reverse (lt_is _ both.1) in
    let same : bytes_eq (group_of file r) (group_of file f) ≡ true = (bytes_eq-Decides (group_of file r) (group_of file f)).1 (sym (groups_same file f r both.0)) in
    let k = (rw (same, greater) at apart) in
    absurd cc

-- ---- what is looked for, and the row of a lead

pub compared : (s : Sought) (r f : Row) (c : List ℕ) (code : ℕ) → ContentsHaveKeys → IsSoughtRow s.file r s.text s → row_or_fault s.file c ≡ Ok f → code ≡ (row_span f).lo → ordering_then (nat_cmp s.code code) (names_cmp s.names (content_names s.file c)) ≡ key_cmp (key_of s.file r) (key_of s.file f)
compared s r f c code law is reads at = rw (is.code, is.names, at, ← (law s.file c f reads).names, ← code_is r, ← code_is f) refl

pub grouped : (s : Sought) (r f : Row) (c : List ℕ) → ContentsHaveKeys → IsSoughtRow s.file r s.text s → row_or_fault s.file c ≡ Ok f → bytes_eq s.group (content_group s.file c) ≡ bytes_eq (group_of s.file r) (group_of s.file f)
grouped s r f c law is reads = rw (is.group, ← (law s.file c f reads).group) refl

above_item : (file : SourceFile) (f r : Row) (item : FileItem) (o : Option Row) → item.row ≡ o → bytes_eq (group_of file r) (group_of file f) ≡ true → is_lt (key_cmp (key_of file r) (key_of file f)) ≡ false → row_passes (follows file f) item ≡ false → row_passes (follows file r) item ≡ false
above_item file f r item None is group order none = rw is refl
above_item file f r item (Some x) is group order none = rw is (above_by file f r x (follows file r x) refl group order (rw is at none))

-- the items that a lead passes
pub lead_passes : (s : Sought) (r : Row) (items : List FileItem) (lead : Lead) → ContentsHaveKeys → IsSoughtRow s.file r s.text s → IsLead s.file s.text items lead → bytes_eq s.group (content_group s.file (content_at s.text lead.item)) ≡ true → is_lt (ordering_then (nat_cmp s.code lead.code) (names_cmp s.names (content_names s.file (content_at s.text lead.item)))) ≡ false → NoneFollows s.file r (take lead.count items)
lead_passes s r items lead law is h group order =
    let c = content_at s.text lead.item in
    let same = sym (grouped s r h.row c law is h.gives.reads) ∙ group in
    let above = ap is_lt (sym (compared s r h.row c lead.code law is h.gives.reads h.code)) ∙ order in
    All-weaker (λ item. row_passes (follows s.file h.row) item ≡ false) (λ item. row_passes (follows s.file r) item ≡ false) (λ item none. above_item s.file h.row r item item.row refl same above none) (take lead.count items) h.none

-- ---- a row that is put in

module _ (p : Row → Bool) where
  abbrev Lacks : FileItem → Type 0
  Lacks item = row_passes p item ≡ false

  take_ended : (n : ℕ) (items : List FileItem) → All Lacks (take n items) → All Lacks (take n (ended items))
  take_ended n [] h = h
  take_ended zero (x ∷ []) h = h
  take_ended (suc n) (x ∷ []) h = All-cons Lacks (with_end x) (take n []) (All-head Lacks x (take n []) h) (All-tail Lacks x (take n []) h)
  take_ended zero (x ∷ y ∷ items) h = λ k d lt. absurd (omega arith)
  take_ended (suc n) (x ∷ y ∷ items) h =
      All-cons Lacks x (take n (ended (y ∷ items))) (All-head Lacks x (take n (y ∷ items)) h) (take_ended n (y ∷ items) (All-tail Lacks x (take n (y ∷ items)) h))

  all_ended : (items : List FileItem) → All Lacks items → All Lacks (ended items)
  all_ended [] h = h
  all_ended (x ∷ []) h = All-cons Lacks (with_end x) [] (All-head Lacks x [] h) (All-tail Lacks x [] h)
  all_ended (x ∷ y ∷ items) h = All-cons Lacks x (ended (y ∷ items)) (All-head Lacks x (y ∷ items) h) (all_ended (y ∷ items) (All-tail Lacks x (y ∷ items) h))

  put_before : (n at : ℕ) (items : List FileItem) (added : FileItem) → n ≤ at → at ≤ length items → All Lacks (take n items) → All Lacks (take n (put_in items at added))
  put_before n at items added le within h =
      let front = length-ended (take at items) in
      let long = length-take-le at items within in
      rw (take-append-le n (ended (take at items)) (added ∷ drop at items) (omega arith))
      (take_ended n (take at items) (subst (All Lacks) (sym (take-take n at items le)) h))

  put_behind : (n at : ℕ) (items : List FileItem) (added : FileItem) → at ≤ n → at ≤ length items → All Lacks (take n items) → Lacks added → All Lacks (take (n + 1) (put_in items at added))
  put_behind n at items added le within h one =
      let front = length-ended (take at items) in
      let long = length-take-le at items within in
      let count : n + 1 ≡ length (ended (take at items)) + suc (n - at) = omega arith in
      let whole : at + (n - at) ≡ n = omega arith in
      let before : All Lacks (take at items) = subst (All Lacks) (take-take at n items le) (All-take Lacks at (take n items) h) in
      let after : All Lacks (take (n - at) (drop at items)) = subst (All Lacks) (drop-take at (n - at) items) (All-drop Lacks at (take (at + (n - at)) items) (rw whole h)) in
      rw (count, take-append-add (ended (take at items)) (added ∷ drop at items) (suc (n - at)))
      (All-append Lacks (ended (take at items)) (added ∷ take (n - at) (drop at items)) (all_ended (take at items) before) (All-cons Lacks added (take (n - at) (drop at items)) one after))

-- a lead that a row is put in behind
pub lead_stays : (file : SourceFile) (text : List ℕ) (items : List FileItem) (added : FileItem) (at : ℕ) (lead : Lead) → IsLead file text items lead → lead.count ≤ at → at ≤ length items → IsLead file text (put_in items at added) lead
lead_stays file text items added at lead h le within = record {
  row = h.row;
  gives = h.gives;
  code = h.code;
  none = put_before (follows file h.row) lead.count at items added le within h.none;
}

-- one that passes fewer items then
pub lead_trimmed : (file : SourceFile) (text : List ℕ) (items : List FileItem) (added : FileItem) (at : ℕ) (lead new : Lead) → IsLead file text items lead → at ≤ lead.count → at ≤ length items → new.item ≡ lead.item → new.code ≡ lead.code → new.count ≡ at → IsLead file text (put_in items at added) new
lead_trimmed file text items added at lead new h le within item code count = record {
  row = h.row;
  gives = rw item h.gives;
  code = code ∙ h.code;
  none = rw count (put_before (follows file h.row) at at items added (omega arith) within (subst (NoneFollows file h.row) (take-take at lead.count items le) (All-take (λ (x : FileItem). row_passes (follows file h.row) x ≡ false) at (take lead.count items) h.none)));
}

-- one that passes the row too
pub lead_grown : (s : Sought) (r : Row) (items : List FileItem) (added : FileItem) (at : ℕ) (lead new : Lead) → ContentsHaveKeys → IsSoughtRow s.file r s.text s → added.row ≡ Some r → IsLead s.file s.text items lead → at ≤ lead.count → at ≤ length items → (bytes_eq s.group (content_group s.file (content_at s.text lead.item)) && is_gt (ordering_then (nat_cmp s.code lead.code) (names_cmp s.names (content_names s.file (content_at s.text lead.item))))) ≡ false → new.item ≡ lead.item → new.code ≡ lead.code → new.count ≡ lead.count + 1 → IsLead s.file s.text (put_in items at added) new
lead_grown s r items added at lead new law is some h le within apart item code count =
    let c = content_at s.text lead.item in
    let here : (bytes_eq (group_of s.file r) (group_of s.file h.row) && is_gt (key_cmp (key_of s.file r) (key_of s.file h.row))) ≡ false = rw (← grouped s r h.row c law is h.gives.reads, ← compared s r h.row c lead.code law is h.gives.reads h.code) apart in
    let one : row_passes (follows s.file h.row) added ≡ false = rw some (apart_by s.file h.row r (follows s.file h.row r) refl here) in
    record {
      row = h.row;
      gives = rw item h.gives;
      code = code ∙ h.code;
      none = rw count (put_behind (follows s.file h.row) lead.count at items added le within h.none one);
    }

-- ---- the place of an added row

none_holds : (p : Row → Bool) (items : List FileItem) → holds_row p items ≡ false → All (λ item. row_passes p item ≡ false) items
none_holds p [] h = λ k d lt. absurd (omega arith)
none_holds p (x ∷ items) h =
    let both = or_parts (row_passes p x) (holds_row p items) h in
    All-cons (λ item. row_passes p item ≡ false) x items both.0 (none_holds p items both.1)

first_ones : {A : Type 0} (p : A → Bool) (xs : List A) → position_or_len p xs ≤ length xs → All (λ x. p x ≡ false) (take (position_or_len p xs) xs)
first_ones p xs le = λ k d lt.
    let long = length-take-le (position_or_len p xs) xs le in
    let read = get_or-take (position_or_len p xs) xs k d (omega arith) in
    rw read (fails_before_first p xs k d (omega arith))

-- no row before the place follows
pub none_before : (file : SourceFile) (row : Row) (items : List FileItem) → is_missing_in file row ≡ false → place_in file row items ≤ length items → NoneFollows file row (take (place_in file row items) items)
none_before file row items plain within = by (holds_row (follows file row) items) refl
  where
    by : (b : Bool) → holds_row (follows file row) items ≡ b → NoneFollows file row (take (place_in file row items) items)
    by true is = rw (plain, is) (first_ones (row_passes (follows file row)) items (rw (plain, is) at within))
    by false is = All-take (λ item. row_passes (follows file row) item ≡ false) (place_in file row items) items (none_holds (follows file row) items is)

pub lead_of : (file : SourceFile) (text : List ℕ) (row : Row) (items : List FileItem) (added : FileItem) (lead : Lead) → GivesRow file text lead.item row → lead.code ≡ (row_span row).lo → is_missing_in file row ≡ false → lead.count ≡ place_in file row items → lead.count ≤ length items → IsLead file text (put_in items lead.count added) lead
lead_of file text row items added lead gives code plain place within = record {
  row = row;
  gives = gives;
  code = code;
  none = put_before (follows file row) lead.count lead.count items added (omega arith) within (rw place (none_before file row items plain (rw (← place) within)));
}

-- ---- what is said of items is so of entries

pub none_behind : (s : Sought) (row : Row) (entries : List (Entry StoredItem)) → ContentsHaveKeys → IsSoughtRow s.file row s.text s → All (IsStored s.file s.text) entries → NoneFollows s.file row (map (stored_at s.file s.text) entries) → All (λ e. comes_behind s e ≡ false) entries
none_behind s row [] law is all none = λ k d lt. absurd (omega arith)
none_behind s row (e ∷ entries) law is all none =
    let st = stored_at s.file s.text in
    All-cons (λ e. comes_behind s e ≡ false) e entries
    (behind_found s.file s.text e row s law is (All-head (IsStored s.file s.text) e entries all) ∙ All-head (λ item. row_passes (follows s.file row) item ≡ false) (st e) (map st entries) none)
    (none_behind s row entries law is (All-tail (IsStored s.file s.text) e entries all) (All-tail (λ item. row_passes (follows s.file row) item ≡ false) (st e) (map st entries) none))

-- ---- the text grows

lead_kept : (file : SourceFile) (text more : List ℕ) (items : List FileItem) (lead : Lead) → IsLead file text items lead → IsLead file (text ++ more) items lead
lead_kept file text more items lead h =
    let same = content_kept text more lead.item h.gives.fits in
    let fits = h.gives.fits in
    let longer = length-append text more in
    record {
      row = h.row;
      gives = record { fits = omega arith; reads = rw same h.gives.reads };
      code = h.code;
      none = h.none;
    }

kept_by : (file : SourceFile) (text more : List ℕ) (items : List FileItem) (list : Option (Vec Lead)) → IfSome list (λ leads. AreLeads file text items leads.items) → IfSome list (λ leads. AreLeads file (text ++ more) items leads.items)
kept_by file text more items None all = tt
kept_by file text more items (Some leads) all = All-weaker (IsLead file text items) (IsLead file (text ++ more) items) (lead_kept file text more items) leads.items all

-- the items stay as they are
pub leads_kept : (file : SourceFile) (text more : List ℕ) (items : List FileItem) (leads : Leads) → KeepLeads file text items leads → KeepLeads file (text ++ more) items leads
leads_kept file text more items leads all = kept_by file text more items leads.list all

pub leads_grown : (file : SourceFile) (text more : List ℕ) (added : ℕ) (items : PartLists (Entry StoredItem)) (leads : Leads) → IsKeptFile file text added items → KeepLeads file text (map (stored_at file text) (next_in items)) leads → KeepLeads file (text ++ more) (map (stored_at file (text ++ more)) (next_in items)) leads
leads_grown file text more added items leads kept all = rw (items_kept file text more (next_in items) kept.next) (leads_kept file text more (map (stored_at file text) (next_in items)) leads all)

-- ---- leads one after the other

pub moved_more : (P : Lead → Type 0) (xs : List Lead) (at k : ℕ) (new d : Lead) → at < length xs → k < at + 1 → (k < at → P (get_or xs k d)) → P new → P (get_or (set xs at new) k d)
moved_more P xs at k new d lt less before one =
    let is : (k ≡ at) ⊎ (k < at) = eq-or-lt_of_le (omega arith) in
    elim is [
      | inl same ↦ subst P (sym (get_or-set_at xs at k new d same lt)) one
      | inr other ↦ subst P (sym (get_or-set_other xs at k new d (omega arith))) (before other)
    ]

pub leads_with : (P : Lead → Type 0) (leads : List Lead) (at : ℕ) (lead : Lead) (put : Bool) → All P leads → P lead → All P (if put then insert leads at lead else leads)
leads_with P leads at lead false all one = all
leads_with P leads at lead true all one = All-append P (take at leads) (lead ∷ drop at leads) (All-take P at leads all) (All-cons P lead (drop at leads) one (All-drop P at leads all))

-- ---- the leads of a file after an addition

pub gap_within : {A : Type 0} (gap : Gap) (n : ℕ) (parts : List (List A)) → IsGapAt gap n parts → n ≤ length (flat parts)
gap_within (Front spot) n parts h = let none = h.2 in omega arith
gap_within (Behind spot) n parts h = let lt = place-lt parts spot h.0 in let next = h.1 in omega arith
gap_within Only n parts h = let none = h.1 in omega arith

pub leads_of : (file : SourceFile) (row : Row) (text : List ℕ) (s : Sought) (items new : List FileItem) (added : FileItem) (count : Option ℕ) (item : StoredItem) (old later : Leads) → IsSoughtRow file row text s → GivesRow file text item row → IfSome count (λ count. count ≡ place_in file row items) → place_in file row items ≤ length items → KeepLeads file text items old → new ≡ put_in items (place_in file row items) added → added.row ≡ Some row → ((r : Row) (is : List FileItem) (one : FileItem) → IsSoughtRow s.file r s.text s → GivesRow s.file s.text item r → one.row ≡ Some r → IfSome count (λ count. count ≡ place_in s.file r is) → place_in s.file r is ≤ length is → KeepLeads s.file s.text is old → KeepLeads s.file s.text (put_in is (place_in s.file r is) one) later) → KeepLeads file text new later
leads_of file row text s items new added count item old later sought gives place within all put some noted =
    let leads = noted row items added (sought_own file row text s sought) (rw (sought.file_is, sought.text_is) gives) some (rw sought.file_is place) (rw sought.file_is within) (rw (sought.file_is, sought.text_is) all) in
    subst (λ (is : List FileItem). KeepLeads file text is later) (sym put)
    (subst (λ (f : SourceFile). KeepLeads f text (put_in items (place_in f row items) added) later) sought.file_is
    (subst (λ (t : List ℕ). KeepLeads s.file t (put_in items (place_in s.file row items) added) later) sought.text_is leads))
