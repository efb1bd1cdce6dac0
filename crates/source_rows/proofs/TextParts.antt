-- Texts that are written part by part.
use Rattle.std.proofs.Common.{◌≡◌, ℕ, List, [], ◌∷◌, ◌++◌, length, take, drop, get_or, ◌-◌, ◌<◌, ◌≤◌, refl, sym, ap, ◌∙◌, arith, append_assoc, codes, decimal, append-nil, take_all}
use Rattle.ucd_facts.specs.Names.{category_code}
use Rattle.ucd_points.specs.HexText.{hex_text}
use Rattle.ucd_facts.specs.RowTexts.{mapping_text, spaced, decomposition_text, case_text, data_line, names_text}
use Rattle.ucd_facts.specs.RowTextLemmas.{mapping_text-is}
use Rattle.ucd_facts.specs.declared.row.DataRow.{DataRow}
use Rattle.source_rows.specs.Texts.{ended, named}

pub no_points : mapping_text [] ≡ []
unfolding mapping_text
no_points = refl

pub between : (text m rest : List ℕ) → text ≡ m ++ rest → codes " ; " ++ text ≡ (codes " ; " ++ m) ++ rest
between text m rest e = rw e (sym (append_assoc (codes " ; ") m rest))

names_are : (n : List ℕ) (ns : List (List ℕ)) → names_text (n ∷ ns) ≡ n ++ named ns
names_are n [] = sym (append-nil n)
names_are n (m ∷ ms) = append_assoc n (codes " ; ") (names_text (m ∷ ms)) ∙ ap (λ (xs : List ℕ). n ++ xs) (between (names_text (m ∷ ms)) m (named ms) (names_are m ms))

-- the same, with the first item at its place, and the others behind it
abbrev behind : {X : Type 0} → List X → List X
behind xs = take (length xs - 1) (drop 1 xs)

behind_is : {X : Type 0} (x : X) (xs : List X) → behind (x ∷ xs) ≡ xs
behind_is x xs = take_all (length (x ∷ xs) - 1) xs (omega arith)

pub mapping_from : (cs : List ℕ) (c : ℕ) → 1 ≤ length cs → c ≡ get_or cs 0 c → mapping_text cs ≡ hex_text c ++ spaced (behind cs)
mapping_from [] c some first = absurd (omega arith)
mapping_from (d ∷ ds) c some first = rw (behind_is d ds, first) (mapping_text-is d ds)

pub mapping_of_none : (cs : List ℕ) → length cs < 1 → mapping_text cs ≡ []
mapping_of_none [] none = no_points
mapping_of_none (c ∷ cs) none = absurd (omega arith)

pub names_from : (ns : List (List ℕ)) (n : List ℕ) → 1 ≤ length ns → n ≡ get_or ns 0 n → names_text ns ≡ n ++ named (behind ns)
names_from [] n some first = absurd (omega arith)
names_from (m ∷ ms) n some first = rw (behind_is m ms, first) (names_are m ms)

-- a line of UnicodeData.txt in four parts
pub line_parts : (row : DataRow) (c : ℕ) (name : List ℕ) → data_line row c name ≡ ended (hex_text c ∷ name ∷ category_code row.category ∷ decimal row.class ∷ []) ++ ended (row.kept.f4 ∷ decomposition_text row.kind row.mapping ∷ row.kept.f6 ∷ row.kept.f7 ∷ []) ++ ended (row.kept.f8 ∷ row.kept.f9 ∷ row.kept.f10 ∷ row.kept.f11 ∷ []) ++ ended (case_text row.upper ∷ case_text row.lower ∷ []) ++ case_text row.title
unfolding data_line
line_parts row c name = simp append_assoc refl
