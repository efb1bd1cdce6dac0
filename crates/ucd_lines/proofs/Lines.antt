-- Laws of the lines of a text.
use Rattle.std.proofs.Common.{◌≡◌, ◌≢◌, ℕ, zero, suc, ◌-◌, ◌≤◌, Bool, true, false, ◌||◌, List, [], ◌∷◌, ◌++◌, length, take, map, refl, ap, ◌∙◌, arith, append_assoc, append-nil, length-append}
use Rattle.std.specs.List.{slice_split, onto_first, list_any, join_with_byte}
use Rattle.std.proofs.lemmas.List.Splits.{join_with_byte-slice_split, length-slice_split}
use Rattle.std.proofs.lemmas.Bool.{or_parts}
use Rattle.ucd_points.specs.Lines.{LineItem, LineEnding, unended, lf, cr_lf, is_lf, ending_bytes, without_return, ends_in_return, ended_item, contents_of_pieces, contents, items_of_pieces, items_of, item_bytes, joined}
use Rattle.ucd_lines.specs.Laws.{IsLine, AreLines}
use Rattle.ucd_lines.proofs.ItemCuts.{ended}
use Rattle.ucd_lines.proofs.Endings.{ended_bytes, ended_told, ended_ends, with_return}

-- ---- contents

contents_same : (pieces : List (List ℕ)) → contents_of_pieces pieces ≡ map (λ item. item.content) (items_of_pieces pieces)
contents_same ([] ∷ next ∷ pieces) = rw (contents_same (next ∷ pieces)) refl
contents_same ((b ∷ bs) ∷ next ∷ pieces) = rw (contents_same (next ∷ pieces)) refl
contents_same _ = refl

pub contents_are_items : (bytes : List ℕ) → contents bytes ≡ map (λ item. item.content) (items_of bytes)
unfolding contents items_of
contents_are_items bytes = contents_same (slice_split is_lf bytes)

-- ---- contents and endings put together

onto_ended : (piece after : List ℕ) → item_bytes (ended_item piece) ++ after ≡ piece ++ 10 ∷ after
onto_ended piece after = rw (ended_bytes piece) (append_assoc piece (10 ∷ []) after)

joined_pieces : (pieces : List (List ℕ)) → joined (items_of_pieces pieces) ≡ join_with_byte 10 pieces
joined_pieces ((b ∷ bs) ∷ []) = append-nil ((b ∷ bs) ++ []) ∙ append-nil (b ∷ bs)
joined_pieces ([] ∷ next ∷ pieces) = onto_ended [] (joined (items_of_pieces (next ∷ pieces))) ∙ ap (λ after. 10 ∷ after) (joined_pieces (next ∷ pieces))
joined_pieces ((b ∷ bs) ∷ next ∷ pieces) = onto_ended (b ∷ bs) (joined (items_of_pieces (next ∷ pieces))) ∙ ap (λ after. (b ∷ bs) ++ 10 ∷ after) (joined_pieces (next ∷ pieces))
joined_pieces _ = refl

pub items_join : (bytes : List ℕ) → joined (items_of bytes) ≡ bytes
unfolding items_of
items_join bytes = joined_pieces (slice_split is_lf bytes) ∙ join_with_byte-slice_split 10 bytes

-- ---- how many there are

few_of_pieces : (pieces : List (List ℕ)) → length (items_of_pieces pieces) ≤ length (join_with_byte 10 pieces)
few_of_pieces ([] ∷ next ∷ pieces) = omega (arith, few_of_pieces (next ∷ pieces))
few_of_pieces ((b ∷ bs) ∷ next ∷ pieces) = omega (arith, few_of_pieces (next ∷ pieces), length-append (b ∷ bs) (10 ∷ join_with_byte 10 (next ∷ pieces)))
few_of_pieces _ = omega arith

pub few_items : (bytes : List ℕ) → length (items_of bytes) ≤ length bytes
unfolding items_of
few_items bytes = rw (join_with_byte-slice_split 10 bytes) at (few_of_pieces (slice_split is_lf bytes))

-- ---- no line feed inside

abbrev pub Lacks : List ℕ → Type 0
Lacks bs = list_any is_lf bs ≡ false

abbrev AllLack : List (List ℕ) → Type 0
AllLack [] = Unit
AllLack (piece ∷ pieces) = Lacks piece × AllLack pieces

onto_lacks : (b : ℕ) (pieces : List (List ℕ)) → is_lf b ≡ false → AllLack pieces → AllLack (onto_first b pieces)
onto_lacks b [] e h = (rw e refl, tt)
onto_lacks b (piece ∷ pieces) e h = (rw e h.0, h.1)

split_step : (b : ℕ) (bs : List ℕ) (is : Bool) → is_lf b ≡ is → AllLack (slice_split is_lf bs) → AllLack (slice_split is_lf (b ∷ bs))
split_step b bs true e h = rw e (refl, h)
split_step b bs false e h = rw e (onto_lacks b (slice_split is_lf bs) e h)

split_lacks : (bs : List ℕ) → AllLack (slice_split is_lf bs)
split_lacks [] = (refl, tt)
split_lacks (b ∷ bs) = split_step b bs (is_lf b) refl (split_lacks bs)

take_lacks : (n : ℕ) (bs : List ℕ) → Lacks bs → Lacks (take n bs)
take_lacks zero bs h = refl
take_lacks (suc n) [] h = refl
take_lacks (suc n) (b ∷ bs) h = let parts = or_parts (is_lf b) (list_any is_lf bs) h in rw parts.0 (take_lacks n bs parts.1)

content_lacks : (piece : List ℕ) (cr : Bool) → ends_in_return piece ≡ cr → Lacks piece → Lacks (without_return piece)
content_lacks piece true e h = rw e (take_lacks (length piece - 1) piece h)
content_lacks piece false e h = rw e h

-- ---- every line, with those behind it

ended_line : (piece : List ℕ) (rest : List LineItem) → Lacks piece → IsLine (ended_item piece) rest
ended_line piece rest h = record { no_line_feed = content_lacks piece (ends_in_return piece) refl h; last = λ e. absurd (ended_ends piece e); no_return = ended_told piece }

last_line : (b : ℕ) (bs : List ℕ) → Lacks (b ∷ bs) → IsLine (record { content = b ∷ bs; ending = unended }) []
last_line b bs h = record { no_line_feed = h; last = λ _. (refl, λ e. absurd cc); no_return = λ e. absurd cc }

pieces_are_lines : (pieces : List (List ℕ)) → AllLack pieces → AreLines (items_of_pieces pieces)
pieces_are_lines ((b ∷ bs) ∷ []) h = (last_line b bs h.0, tt)
pieces_are_lines ([] ∷ next ∷ pieces) h = (ended_line [] (items_of_pieces (next ∷ pieces)) h.0, pieces_are_lines (next ∷ pieces) h.1)
pieces_are_lines ((b ∷ bs) ∷ next ∷ pieces) h = (ended_line (b ∷ bs) (items_of_pieces (next ∷ pieces)) h.0, pieces_are_lines (next ∷ pieces) h.1)
pieces_are_lines _ h = tt

are_lines : (bytes : List ℕ) → AreLines (items_of bytes)
unfolding items_of
are_lines bytes = pieces_are_lines (slice_split is_lf bytes) (split_lacks bytes)

line_behind : (front : List LineItem) (item : LineItem) (rest : List LineItem) → AreLines (front ++ item ∷ rest) → IsLine item rest
line_behind [] item rest h = h.0
line_behind (first ∷ front) item rest h = line_behind front item rest h.1

pub is_line : (bytes : List ℕ) (front : List LineItem) (item : LineItem) (rest : List LineItem) → items_of bytes ≡ front ++ item ∷ rest → IsLine item rest
is_line bytes front item rest e = line_behind front item rest (rw e at (are_lines bytes))

-- ---- no other lines give the same text

split_behind : (bs after : List ℕ) → Lacks bs → slice_split is_lf (bs ++ 10 ∷ after) ≡ bs ∷ slice_split is_lf after
split_behind [] after h = refl
split_behind (b ∷ bs) after h = let parts = or_parts (is_lf b) (list_any is_lf bs) h in rw (parts.0, split_behind bs after parts.1) refl

split_lone : (bs : List ℕ) → Lacks bs → slice_split is_lf bs ≡ bs ∷ []
split_lone [] h = refl
split_lone (b ∷ bs) h = let parts = or_parts (is_lf b) (list_any is_lf bs) h in rw (parts.0, split_lone bs parts.1) refl

behind : (piece after : List ℕ) → Lacks piece → items_of (piece ++ 10 ∷ after) ≡ ended_item piece ∷ items_of after
unfolding items_of
behind piece after h = rw (split_behind piece after h) (ended piece (slice_split is_lf after) (omega (arith, length-slice_split is_lf after)))

lone : (content : List ℕ) → Lacks content → content ≢ [] → items_of content ≡ record { content = content; ending = unended } ∷ []
unfolding items_of
lone [] h some = absurd (some refl)
lone (b ∷ bs) h some = rw (split_lone (b ∷ bs) h) refl

with_return_lacks : (bs : List ℕ) → Lacks bs → Lacks (bs ++ 13 ∷ [])
with_return_lacks [] h = refl
with_return_lacks (b ∷ bs) h = let parts = or_parts (is_lf b) (list_any is_lf bs) h in rw parts.0 (with_return_lacks bs parts.1)

first_line_of : (content : List ℕ) (ending : LineEnding) (rest : List LineItem) → IsLine (record { content = content; ending = ending }) rest → items_of (joined rest) ≡ rest → items_of ((content ++ ending_bytes ending) ++ joined rest) ≡ record { content = content; ending = ending } ∷ rest
first_line_of content unended rest h e =
    let none : rest ≡ [] = (h.last refl).0 in
    rw (none, append-nil (content ++ []), append-nil content) (lone content h.no_line_feed (h.last refl).1)
first_line_of content lf rest h e =
    rw (append_assoc content (10 ∷ []) (joined rest), behind content (joined rest) h.no_line_feed, e, h.no_return refl) refl
first_line_of content cr_lf rest h e =
    rw (append_assoc content (13 ∷ 10 ∷ []) (joined rest), ← append_assoc content (13 ∷ []) (10 ∷ joined rest), behind (content ++ 13 ∷ []) (joined rest) (with_return_lacks content h.no_line_feed), e, with_return content) refl

pub lines_are_unique : (items : List LineItem) → AreLines items → items_of (joined items) ≡ items
unfolding items_of
lines_are_unique [] h = refl
lines_are_unique (item ∷ rest) h = first_line_of item.content item.ending rest h.0 (lines_are_unique rest h.1)
