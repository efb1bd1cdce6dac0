-- Items that are put in, among the entries.
use Rattle.std.proofs.Common.{◌≡◌, ℕ, zero, suc, ◌+◌, ◌<◌, List, [], ◌∷◌, length, take, drop, map, set, get_or, refl, sym, ap, subst, ◌∙◌, arith, All, insert}
use Rattle.std.proofs.lemmas.List.Elements.{All-append, All-cons, All-drop, All-set, All-take}
use Rattle.std.proofs.lemmas.List.{length-map, get_or-map, map-set}
use Rattle.ucd_points.specs.PlainProofs.{map_insert}
use Rattle.part_list.specs.declared.entry.Entry.{Entry}
use Rattle.release_rows.specs.FileItems.{FileItem}
use Rattle.release_rows.specs.Operations.{ended, put_in, with_end}
use Rattle.release_rows.specs.declared.stored_item.StoredItem.{StoredItem}

-- an item behind the one at a place, which is given an end
put_next : (xs : List FileItem) (at : ℕ) (d item : FileItem) → at < length xs → insert (set xs at (with_end (get_or xs at d))) (suc at) item ≡ put_in xs (suc at) item
put_next [] at d item lt = absurd (omega arith)
put_next (x ∷ []) zero d item lt = refl
put_next (x ∷ y ∷ xs) zero d item lt = refl
put_next (x ∷ []) (suc at) d item lt = absurd (omega arith)
put_next (x ∷ y ∷ xs) (suc at) d item lt = ap (λ (is : List FileItem). x ∷ is) (put_next (y ∷ xs) at d item (omega arith))

-- the same of entries: the items are those with the new one put in
pub put_behind : (st : Entry StoredItem → FileItem) (xs new : List (Entry StoredItem)) (at : ℕ) (found ended entry : Entry StoredItem) → at < length xs → found ≡ get_or xs at found → st ended ≡ with_end (st found) → new ≡ insert (set xs at ended) (at + 1) entry → map st new ≡ put_in (map st xs) (at + 1) (st entry)
put_behind st xs new at found ended entry lt is end put =
    let next : at + 1 ≡ suc at = omega arith in
    let long = length-map xs st in
    let here : get_or (map st xs) at (st found) ≡ st found = get_or-map st xs at found (st found) lt ∙ ap st (sym is) in
    ap (map st) put
    ∙ map_insert st (set xs at ended) (at + 1) entry
    ∙ ap (λ (is : List FileItem). insert is (at + 1) (st entry)) (map-set st xs at ended)
    ∙ ap (λ (e : FileItem). insert (set (map st xs) at e) (at + 1) (st entry)) (end ∙ ap with_end (sym here))
    ∙ rw next (put_next (map st xs) at (st found) (st entry) (omega arith))

-- what holds of each entry, of the one that is put in and of the ended one, holds of each then
pub each_put : (P : Entry StoredItem → Type 0) (xs new : List (Entry StoredItem)) (at : ℕ) (ended entry : Entry StoredItem) → All P xs → P ended → P entry → new ≡ insert (set xs at ended) (at + 1) entry → All P new
each_put P xs new at ended entry all end one put =
    let rest = All-set P xs at ended end all in
    subst (All P) (sym put) (All-append P (take (at + 1) (set xs at ended)) (entry ∷ drop (at + 1) (set xs at ended)) (All-take P (at + 1) (set xs at ended) rest) (All-cons P entry (drop (at + 1) (set xs at ended)) one (All-drop P (at + 1) (set xs at ended) rest)))
